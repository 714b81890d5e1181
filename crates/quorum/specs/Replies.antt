-- What a client has counted in a round.
use Rattle.std.specs.Prelude.{◌≡◌, ◌+◌, ℕ, cond, replicate, slice_set}
use Rattle.settings.specs.Limits.{replicas_max}
use Rattle.quorum.specs.Tally.{adds}
use Rattle.quorum.specs.declared.slip.Receipt.{Receipt}
use Rattle.quorum.specs.declared.slip.Reading.{Reading}
use Rattle.quorum.specs.declared.replies.Replies.{Replies}
use Rattle.quorum.specs.Slip.{blank_receipt, blank_reading}

-- the two kinds of slips that a round counts
abbrev pub Receipts : Type 0
Receipts = Replies Receipt

abbrev pub Readings : Type 0
Readings = Replies Reading

-- none is counted yet, and a blank slip stands at each place
abbrev pub none_counted : {X : Type 0} → X → Replies X
none_counted blank = record { got = 0; slips = replicate replicas_max blank }

-- the same, at a blank slip that is the default
pub record NoneCounted {X : Type 0} (is_default : X → Type 0) (r : Replies X) : Type 0 where
  pub blank : X
  pub default : is_default blank
  pub none : r ≡ none_counted blank

-- no receipt is counted yet
abbrev pub no_receipts : Receipts
no_receipts = none_counted blank_receipt

-- no reading is counted yet
abbrev pub no_readings : Readings
no_readings = none_counted blank_reading

-- with the slip s, if it is added
abbrev pub with_slip : {X : Type 0} → (X → ℕ) → Replies X → X → Replies X
with_slip sent_by r s =
    cond (adds sent_by r.slips r.got s)
    (record { got = r.got + 1; slips = slice_set r.slips r.got s })
    r

-- with the receipt s, if it is added
abbrev pub with_receipt : Receipts → Receipt → Receipts
with_receipt r s = with_slip (λ x. x.replica) r s

-- with the reading s, if it is added
abbrev pub with_reading : Readings → Reading → Readings
with_reading r s = with_slip (λ x. x.replica) r s
