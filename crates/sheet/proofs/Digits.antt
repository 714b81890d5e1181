-- What a short number and its separator are, byte by byte, and a line with short numbers alone.
use Rattle.std.proofs.Common.{◌≡◌, ℕ, ◌+◌, ◌-◌, ◌/◌, ◌%◌, ◌<◌, ◌≤◌, ◌^◌, ◌∷◌, [], arith, refl, decimal}
use Rattle.std.proofs.lemmas.Fmt.{decimal_digit, decimal_step}
use Rattle.sheet.specs.Listing.{end_of, line_of, plain_answer}
use Rattle.sheet.proofs.Words.{closed}

pub one_digit : (n separator : ℕ) → n < 10 → closed (decimal n) separator ≡ (48 + n) ∷ separator ∷ []
one_digit n separator h = rw (decimal_digit n h) refl

pub two_digits : (n separator : ℕ) → 10 ≤ n → n < 100 → closed (decimal n) separator ≡ (48 + n / 10) ∷ (48 + n % 10) ∷ separator ∷ []
two_digits n separator l h =
    let tens : n / 10 < 10 = omega arith in
    let fits : n < 2 ^ 64 = omega arith in
    rw (decimal_step n l fits, decimal_digit (n / 10) tens) refl

hundred_and : (n separator : ℕ) → 100 ≤ n → n < 110 → closed (decimal n) separator ≡ 49 ∷ 48 ∷ (48 + (n - 100)) ∷ separator ∷ []
hundred_and n separator l h =
    let fits : n < 2 ^ 64 = omega arith in
    let fits_tens : n / 10 < 2 ^ 64 = omega arith in
    let tens : n / 10 ≡ 10 = omega arith in
    let ones : n % 10 ≡ n - 100 = omega arith in
    rw (decimal_step n (omega arith) fits, tens, decimal_step 10 (omega arith) (omega arith), decimal_digit 1 (omega arith), ones) refl

pub no_more : (code who : ℕ) → end_of (plain_answer code who) ≡ 48 ∷ 32 ∷ 48 ∷ 32 ∷ 48 ∷ 10 ∷ []
no_more code who = rw (decimal_digit 0 (omega arith)) refl

pub short_who : (code who : ℕ) → 100 ≤ code → code < 110 → who < 10
    → line_of (plain_answer code who) ≡ 49 ∷ 48 ∷ (48 + (code - 100)) ∷ 32 ∷ (48 + who) ∷ 32 ∷ 48 ∷ 32 ∷ 48 ∷ 32 ∷ 48 ∷ 10 ∷ []
short_who code who l h w = rw (hundred_and code 32 l h, one_digit who 32 w, no_more code who) refl

pub long_who : (code who : ℕ) → 100 ≤ code → code < 110 → 10 ≤ who → who < 100
    → line_of (plain_answer code who) ≡ 49 ∷ 48 ∷ (48 + (code - 100)) ∷ 32 ∷ (48 + who / 10) ∷ (48 + who % 10) ∷ 32 ∷ 48 ∷ 32 ∷ 48 ∷ 32 ∷ 48 ∷ 10 ∷ []
long_who code who l h v w = rw (hundred_and code 32 l h, two_digits who 32 v w, no_more code who) refl
