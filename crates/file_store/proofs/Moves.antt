-- What moves bytes.
use Rattle.std.proofs.Common.{◌≡◌, ℕ, pos, negsuc, ◌<◌, ◌≤◌, true, List, [], ◌∷◌, length, Ok, refl, arith}
use Rattle.open_files.specs.Transfers.{moves_bytes}
use Rattle.open_files.specs.declared.state.Place.{Place}
use Rattle.open_files.specs.declared.state.Place.TheVariants.{Current, At}
use Rattle.file_store.specs.Sending.{EndsInFile}

pub some_moved : (bytes : List ℕ) → 0 < length bytes → moves_bytes (Ok bytes) ≡ true
some_moved [] some = absurd (omega arith)
some_moved (b ∷ bs) some = refl

-- fewer bytes from an offset on end within the file too
pub fewer_end : (place : Place) (n most : ℕ) → n ≤ most → EndsInFile place most → EndsInFile place n
fewer_end Current n most few end = tt
fewer_end (At (pos start)) n most few end = omega (arith, few, end)
fewer_end (At (negsuc m)) n most few end = tt
