pub mod AnswerLemmas
pub mod BareLemmas
pub mod CallLemmas
pub mod CauseLemmas
pub mod DisWayLemmas
pub mod ElfLemmas
pub mod ElfWayLemmas
pub mod EachRunLemmas
pub mod EndLemmas
pub mod GatheringLemmas
mod HiddenLemmas
pub mod ListLemmas
pub mod LoadLemmas
pub mod LoadWayLemmas
pub mod MigratedLemmas
pub mod NoneRunLemmas
mod OneTagLemmas
mod OneTagRunLemmas
pub mod RunWayLemmas
pub mod SafeRunLemmas
pub mod SaveWayLemmas
pub mod SecretWayLemmas
pub mod SessionLemmas
mod SessionRunLemmas
pub mod ShellWayLemmas
pub mod SideLemmas
pub mod StartLemmas
pub mod TaskLemmas
pub mod WayLemmas
pub mod WordWayLemmas
pub mod WorkloadLemmas
