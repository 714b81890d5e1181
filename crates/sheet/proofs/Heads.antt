-- A fault in one of the first three lines is a fault of all three.
use Rattle.std.proofs.Common.{ℕ, List, ◌++◌, pos, arith}
use Rattle.sheet.proofs.Words.{Settings, Shown, orders_max, title_words, settings_words, orders_words, number_words, SmallSettings, Fault, Took, Missed, Miscounted, wrong, many, HeadFault, spoiled, packed}
use Rattle.sheet.proofs.Walks.{later, longer}
use Rattle.sheet.proofs.Counting.{overfull_after}

abbrev no_settings : Settings
no_settings = record { replicas = 0; tolerated = 0; groups = 0; readers = 0; initial = pos 0 }

no_settings_small : SmallSettings no_settings
no_settings_small = record { replicas = omega arith; tolerated = omega arith; groups = omega arith; readers = omega arith; initial = omega arith }

pub title_fault : (places : ℕ) (a : List ℕ) (k : ℕ) (f : Shown) → Fault title_words a k f → HeadFault places a k f
title_fault places a k f h =
    spoiled no_settings 0 no_settings_small (omega arith, omega arith) (longer (settings_words no_settings ++ (orders_words ++ number_words orders_max 10 0)) h)

pub settings_fault : (places : ℕ) (a b : List ℕ) (k l : ℕ) (f : Shown) → Took title_words a k b l → Missed SmallSettings settings_words b l f → HeadFault places a k f
settings_fault places a b k l f t m =
    spoiled m.like 0 m.fine (omega arith, omega arith) (later t (longer (orders_words ++ number_words orders_max 10 0) m.fault))

pub count_fault : (places : ℕ) (s : Settings) (a b d : List ℕ) (k l m : ℕ) (f : Shown) → Took title_words a k b l → SmallSettings s → Took (settings_words s) b l d m → Miscounted orders_words places d m f → HeadFault places a k f
count_fault places s a b d k l m f t small u (wrong h) = spoiled s h.like small h.fine (later t (later u h.fault))
count_fault places s a b d k l m f t small u (many h) =
    packed s small (overfull_after title_words (settings_words s ++ orders_words) places a b k l f t (overfull_after (settings_words s) orders_words places b d l m f u h))
