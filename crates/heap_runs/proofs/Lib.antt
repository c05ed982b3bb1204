mod BookLemmas
mod FindLemmas
mod KeptLemmas
mod PlanLemmas
mod GuaranteeLemmas
mod RegionLemmas
mod RuleLemmas
mod ServiceLemmas
mod ServingLemmas
pub mod StartLemmas
mod TagLemmas
pub mod TurnLemmas
