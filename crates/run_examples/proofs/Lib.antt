mod ComputedLemmas
mod CountedLemmas
