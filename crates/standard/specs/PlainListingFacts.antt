-- The listing (01, Program plainlist): how long it can be, stated. The proof is in crates/plain_listing/proofs/ListLaws.
use Rattle.std.specs.Prelude.{List, ℕ, ◌≤◌, length}
use Rattle.standard.specs.PlainListing.{listing, listing_room}

-- no listing is longer, whatever bytes are read as a book; the proof is in crates/plain_listing/proofs/ListLaws
abbrev pub ListingFits : Type 0
ListingFits = (p : List ℕ) → length (listing p) ≤ listing_room
