-- The lemmas.
mod Printing
