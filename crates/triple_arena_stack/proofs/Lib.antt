mod FilledLemmas
mod PairLemmas
mod PushedLemmas
