pub mod MirrorLemmas
pub mod ReadinessLemmas
pub mod RunLemmas
pub mod SpentLemmas
pub mod StopLemmas
pub mod TurnLemmas
