-- The lines of the answers before this one stand in the space, and nothing else.
use Rattle.std.proofs.Common.{◌≡◌, ◌≤◌, length, take}
use Rattle.sheet.specs.Listing.{listing_of}
use Rattle.sheet.proofs.listing.write_listing.Given as goal

abbrev pub invariant-loop-a : goal.invariant-loop-a
invariant-loop-a l =
    (l.at.len ≡ length (listing_of (take l.a-index l.answers))) × (l.at.len ≤ length l.out) × (take l.at.len l.out ≡ listing_of (take l.a-index l.answers))
