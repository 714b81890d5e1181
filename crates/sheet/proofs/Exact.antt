-- A sheet of the form is read as what it was made from; it ends in `exactly`.
use Rattle.std.proofs.Common.{◌≡◌, ℕ, ◌≤◌, List, [], ◌++◌, length, take, Ok, Err, Result, sym, ap, ◌∙◌, arith}
use Rattle.std.proofs.lemmas.List.{append-nil, length-take-le}
use Rattle.sheet.proofs.Words.{Order, Settings, SheetFault, Shown, head_words, lines_of, bytes_of, sheet_of, Writable, FirstFault, in_head, crowded, in_order, behind}
use Rattle.sheet.specs.declared.read.Reading.{Reading}
use Rattle.sheet.specs.Read.{Outcome, GivenAs}
use Rattle.sheet.proofs.Apart.{head_peel, orders_peel}
use Rattle.sheet.proofs.Excluded.{sheet_split, head_refuted, crowd_refuted, line_refuted}
use Rattle.sheet.proofs.Walks.{bytes_append}

pub record SheetPeeled (s t : Settings) (os ps : List Order) (x y : List ℕ) : Type 0 where
  pub settings : s ≡ t
  pub orders : os ≡ ps
  pub rest : x ≡ y

pub sheet_peel : (s t : Settings) (os ps : List Order) (x y : List ℕ) → Writable s os → Writable t ps → sheet_of s os ++ x ≡ sheet_of t ps ++ y → SheetPeeled s t os ps x y
sheet_peel s t os ps x y g h e =
    let r = head_peel s t (length os) (length ps) (bytes_of (lines_of os) ++ x) (bytes_of (lines_of ps) ++ y) g.settings h.settings g.few h.few (sym (sheet_split s (length os) os x) ∙ e ∙ sheet_split t (length ps) ps y) in
    let q = orders_peel os ps x y g.each h.each r.count r.rest in
    record { settings = r.settings; orders = q.0; rest = q.1 }

-- a sheet of the form has no fault
pub no_fault : (sheet : List ℕ) (places : ℕ) (f : Shown) (filled : List Order) (t : Settings) (ps : List Order) → FirstFault sheet places f filled → Writable t ps → length ps ≤ places → sheet ≡ sheet_of t ps → ⊥
no_fault sheet places f filled t ps (in_head h) w room e =
    head_refuted sheet places f filled t (length ps) (bytes_of (lines_of ps)) h w.settings w.few (e ∙ bytes_append (head_words t (length ps)) (lines_of ps))
no_fault sheet places f filled t ps (crowded h) w room e =
    crowd_refuted sheet places f filled t (length ps) (bytes_of (lines_of ps)) h w.settings w.few room (e ∙ bytes_append (head_words t (length ps)) (lines_of ps))
no_fault sheet places f filled t ps (in_order h) w room e =
    line_refuted sheet places f filled t ps [] h w.settings w.few w.each (e ∙ sym (append-nil (sheet_of t ps)) ∙ sheet_split t (length ps) ps [])
no_fault sheet places f filled t ps (behind h) w room e =
    h.some (sheet_peel h.settings t filled ps h.surplus [] h.writable w (sym h.agrees ∙ e ∙ sym (append-nil (sheet_of t ps)))).rest

pub exactly : (sheet : List ℕ) (before after : List Order) (r : Result Reading SheetFault) → length after ≡ length before → Outcome sheet before after r → (t : Settings) (ps : List Order) → Writable t ps → length ps ≤ length before → sheet ≡ sheet_of t ps → GivenAs t ps after r
exactly sheet before after (Ok g) l h t ps w room e =
    let p = sheet_peel g.settings t (take g.count after) ps [] [] h.writable w (ap (λ v. v ++ []) (sym h.same ∙ e)) in
    let n : length (take g.count after) ≡ g.count = length-take-le g.count after (omega (arith, h.room)) in
    (p.settings, sym n ∙ ap length p.orders, p.orders)
exactly sheet before after (Err f) l h t ps w room e = no_fault sheet (length before) _ (take h.filled after) t ps h.fault w room e
