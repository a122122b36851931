mod FirstWords
mod FormLaws
mod NameLemmas
mod Splits
mod StoreExactly
mod Writes
