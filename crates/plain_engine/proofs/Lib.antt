mod NotedLemmas
mod PlainLemmas
mod RememberingLemmas
