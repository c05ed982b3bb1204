pub mod EffectLemmas
pub mod LookLemmas
pub mod MachineLemmas
pub mod PlaceLemmas
pub mod RunLemmas
pub mod ServiceLemmas
pub mod StopLemmas
pub mod TurnLemmas
