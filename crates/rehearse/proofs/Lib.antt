-- The lemmas.
mod FiveWords
