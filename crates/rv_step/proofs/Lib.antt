mod TouchLemmas
