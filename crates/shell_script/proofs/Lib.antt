pub mod ByteLemmas
pub mod GainLemmas
pub mod LineLemmas
pub mod RunLemmas
pub mod ScriptLemmas
pub mod ShellLemmas
