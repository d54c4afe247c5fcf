-- The laws of a transcript, by which list of readings is the listing at a place, and by the bytes
-- that were supplied at opening.
use Rattle.std.specs.Prelude.{◌≡◌, ◌≢◌, ℕ, ◌+◌, ◌≤◌, List, [], ◌∷◌, ◌++◌, length, take, drop, Some, None, All, AllPairs}
use Rattle.places.specs.declared.Reading.{Reading}
use Rattle.places.specs.Listing.{Place}
use Rattle.plain.specs.declared.Line.TheVariants.{Next, Reject}
use Rattle.plain.specs.Transcript.{Entry, deed, Taking, place_told, place_of_next, offered, in_hand, taken, put_back}

-- so many bytes may be taken there
pub record MayTake (rest : List ℕ) (n : ℕ) : Type 0 where
  pub some : 1 ≤ n
  pub most : n ≤ 1024
  pub within : n ≤ length rest

module _ (IsListingAt : Place → List Reading → Type 0) (supplied : List ℕ) where
  -- at each moment
  pub record HoldsAfter (entries : List Entry) : Type 0 where
    -- the readings offered since the last granted next are the first ones of the listing at its
    -- place, in its order
    pub in_order :
        (listing : List Reading) → IsListingAt (place_of_next supplied entries) listing →
        offered entries ≡ take (length (offered entries)) listing
    -- no two of them are the same
    pub none_twice : AllPairs (λ one later. one ≢ later) (offered entries)
    -- the bytes taken and those left are as many as those supplied and those put back
    pub balance :
        taken entries + length (place_told supplied entries).rest
        ≡ length supplied + put_back entries
    -- with none put back, what is left is what was supplied without its first bytes
    pub remains :
        put_back entries ≡ 0 → (place_told supplied entries).rest ≡ drop (taken entries) supplied

  -- a next is denied if nothing is listed, and granted if something is
  pub record NextIsRight (entry : Entry) (before : List Entry) : Type 0 where
    pub denied :
        (listing : List Reading) → IsListingAt (place_told supplied before) listing →
        listing ≡ [] → entry.answer.number ≡ 21
    pub granted :
        (listing : List Reading) → IsListingAt (place_told supplied before) listing →
        listing ≢ [] → entry.answer.number ≡ 0

  -- a reject is denied if the whole listing was offered, and granted if not
  pub record RejectIsRight (entry : Entry) (before : List Entry) : Type 0 where
    pub denied :
        (listing : List Reading) → IsListingAt (place_of_next supplied before) listing →
        offered before ≡ listing → entry.answer.number ≡ 22
    pub granted :
        (listing : List Reading) → IsListingAt (place_of_next supplied before) listing →
        offered before ≢ listing → entry.answer.number ≡ 0

  -- an entry, behind those before it
  pub record EntryIsRight (entry : Entry) (before : List Entry) : Type 0 where
    pub next : entry.line ≡ Next → in_hand before ≡ None → NextIsRight entry before
    pub reject :
        (reading : Reading) → entry.line ≡ Reject → in_hand before ≡ Some reading →
        RejectIsRight entry before
    -- an accept, keep or extend that is granted takes bytes that are there
    pub takes :
        (n : ℕ) → deed entry ≡ Taking n → MayTake (place_told supplied before).rest n

  -- a transcript, at each of its moments and each of its entries
  pub record Lawful (transcript : List Entry) : Type 0 where
    pub holds :
        (later before : List Entry) → transcript ≡ later ++ before → HoldsAfter before
    pub right :
        (later before : List Entry) (entry : Entry) →
        transcript ≡ later ++ (entry ∷ before) → EntryIsRight entry before
    -- if one goes on rejecting, each reject offers one reading more, until all are offered
    pub all_offered :
        (later rejects before : List Entry) (reading : Reading) (listing : List Reading) →
        transcript ≡ later ++ (rejects ++ before) → All (λ entry. entry.line ≡ Reject) rejects →
        in_hand before ≡ Some reading → IsListingAt (place_of_next supplied before) listing →
        offered (rejects ++ before) ≡ take (length (offered before) + length rejects) listing
