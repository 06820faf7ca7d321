mod LostLemmas
mod SumLemmas
mod SortedLemmas
mod NodeLemmas
mod SpaceLemmas
