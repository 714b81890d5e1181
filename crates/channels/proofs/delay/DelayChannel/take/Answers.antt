use Rattle.std.proofs.Common.{[], ◌∷◌, length, sym, ap, ◌∙◌, arith, length-append}
use Rattle.std.proofs.lemmas.List.Sorted.{IsPermutation-refl, IsPermutation-append_left, IsPermutation-trans, IsPermutation-sym}
use Rattle.channels.specs.Delay.{given, delayed, last}
use Rattle.channels.proofs.Beside.{put_beside, take_beside}
use Rattle.channels.proofs.delay.DelayChannel.take.Goals as goal

pub returns-then-not-is_later-clause-meets : goal.returns-then-not-is_later-clause-meets
returns-then-not-is_later-clause-meets g c = (IsPermutation-trans _ _ _ c.loop-m.invariant.0 (IsPermutation-append_left _ _ _ c.in-Some.ensures.0), omega (arith, c.in-Some.ensures.1))

pub returns-then-not-is_later-clause-gives : goal.returns-then-not-is_later-clause-gives
returns-then-not-is_later-clause-gives g c = record {
  handed = c.loop-m.invariant.2 _ _ _ (given _ _ _ _ c.in-Some.ensures.0 (sym c.is_later.ensures ∙ c.if-not-is_later.true));
  replica = c.loop-m.invariant.3;
}

pub loop-m-preserved : goal.loop-m-preserved
loop-m-preserved g c =
    let h = c.in-Some.ensures in
    let e = c.push.ensures in (
      rw e (IsPermutation-trans _ _ _ c.loop-m.invariant.0 (IsPermutation-trans _ _ _ (IsPermutation-append_left _ _ _ h.0) (IsPermutation-sym _ _ (put_beside _ _ _ _ (IsPermutation-refl _))))),
      omega (arith, h.1, ap length e, length-append c.loop-m.self.pocket.items (c.in-Some.m ∷ [])),
      (λ b' p' r k. c.loop-m.invariant.2 b' p' r
          (delayed _ _ _ _ _ _ c.in-Some.m r h.0 (sym c.is_later.ensures ∙ c.if-not-is_later.false) e k)),
      c.loop-m.invariant.3,
    )

pub returns : goal.returns
returns g c =
    let p = c.pop.ensures in
    let x = c.in_default.ensures in
    record {
      meets = take_beside _ _ _ c.loop-m.self.pocket c.pop.new.self _ _ _ c.pop.result c.loop-m.invariant.0 c.loop-m.invariant.1 x c.loop-m.self.few p.oldest p.none;
      gives = record { handed = c.loop-m.invariant.2 _ _ _ (last _ _ _ _ _ x.0 x.1 p.oldest); replica = c.loop-m.invariant.3 };
    }
