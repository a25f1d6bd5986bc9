-- The records of a listing, entry by entry.
use Rattle.std.proofs.Common.{◌≡◌, ℕ, ◌+◌, ◌-◌, Bool, List, [], Result, Ok, Err, refl, ap, ◌∙◌, arith}
use Rattle.std.proofs.lemmas.Grind.{common_steps}
use Rattle.kernel_values.specs.declared.errno.Errno.{Errno}
use Rattle.kernel_values.specs.declared.listing.DirEntry.{DirEntry}
use Rattle.file_tree.specs.Listing.{IsBehind}
use Rattle.served_calls.specs.Calls.{Memory}
use Rattle.file_calls.specs.Listings.{cut_short, listed_records, one_more, records, stored_then, stores_entry}
use Rattle.file_calls.specs.declared.listings.Listed.{Listed}

module _ (wide : Bool) (at room : ℕ) (l : Listed) (m : Memory) where
  pub none_left : (all : Result (List DirEntry) Errno) → all ≡ Ok [] → listed_records wide at room l all m ≡ (Ok l, m)
  unfolding records
  none_left all none = rw none refl

module _ (wide : Bool) (at room : ℕ) (l : Listed) (m : Memory) (e : DirEntry) where
  -- the records of all entries begin with the first one's
  first_record : (rest all : Result (List DirEntry) Errno) → IsBehind rest e all → listed_records wide at room l all m ≡ stored_then l (stores_entry wide (at + l.bytes) (room - l.bytes) e m) (listed_records wide at room (one_more wide l e) rest)
  unfolding records
  first_record (Ok es) all behind = rw behind refl
  first_record (Err x) all behind = absurd behind

  pub stored_one : (rest all : Result (List DirEntry) Errno) (after : Memory) → IsBehind rest e all → stores_entry wide (at + l.bytes) (room - l.bytes) e m ≡ (Ok tt, after) → listed_records wide at room l all m ≡ listed_records wide at room (one_more wide l e) rest after
  stored_one rest all after behind stored = first_record rest all behind ∙ ap (λ d. stored_then l d (listed_records wide at room (one_more wide l e) rest)) stored

  refused_one : (rest all : Result (List DirEntry) Errno) (x : Errno) (after : Memory) → IsBehind rest e all → stores_entry wide (at + l.bytes) (room - l.bytes) e m ≡ (Err x, after) → listed_records wide at room l all m ≡ (cut_short l x, after)
  refused_one rest all x after behind refused = first_record rest all behind ∙ ap (λ d. stored_then l d (listed_records wide at room (one_more wide l e) rest)) refused

  pub refused_first : (rest all : Result (List DirEntry) Errno) (x : Errno) (after : Memory) → IsBehind rest e all → stores_entry wide (at + l.bytes) (room - l.bytes) e m ≡ (Err x, after) → l.bytes ≡ 0 → listed_records wide at room l all m ≡ (Err x, after)
  refused_first rest all x after behind refused none = grind (arith, common_steps, refused_one rest all x after behind refused)

  pub refused_later : (rest all : Result (List DirEntry) Errno) (x : Errno) (after : Memory) → IsBehind rest e all → stores_entry wide (at + l.bytes) (room - l.bytes) e m ≡ (Err x, after) → (l.bytes ≡ 0 → ⊥) → listed_records wide at room l all m ≡ (Ok l, after)
  refused_later rest all x after behind refused some = grind (arith, common_steps, refused_one rest all x after behind refused)
