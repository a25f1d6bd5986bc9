-- All lines of a script.
use Rattle.std.proofs.Common.{◌≡◌, ℕ, ◌+◌, ◌==◌, nat_le, Bool, true, false, List, [], ◌∷◌, ◌++◌, length, cond, Option, Some, None, Result, Ok, Err, refl}
use Rattle.std.specs.Bool.{⊤}
use Rattle.kernel_values.specs.declared.abi.AbiKind.{AbiKind}
use Rattle.file_store.specs.Image.{fresh_files}
use Rattle.file_tree.specs.Image.{fresh_tree}
use Rattle.native_kernel.specs.Operations.{started}
use Rattle.script_reader.specs.declared.fault.LineCause.{LineCause}
use Rattle.script_reader.specs.declared.fault.LineCause.TheVariants as causes
use Rattle.script_reader.specs.declared.seen.Seen.{Seen}
use Rattle.script_reader.specs.Ending.{ScriptText, ends}
use Rattle.script_reader.specs.Ending as endings
use Rattle.script_reader.specs.Grammar.{Line, Header, abi_of}
use Rattle.script_reader.specs.Script.{limit, script_from, script_of, script_told}
use Rattle.script_reader.specs.Seen.{Told, Passed, Says, Bad, counted, header_said, is_passed, line_told, misplaced, new_seen, said, told, told_at}
use Rattle.replay_command.specs.Machine.{applied, start}
use Rattle.replay_command.specs.declared.machine.Machine.{Machine}
use Rattle.replay_laws.specs.ImageLines.{AreDone, ImageLinesAreDone, IsDone}
use Rattle.replay_laws.proofs.Lines.{is_fit, line_fits}
use Rattle.replay_laws.proofs.Machines.{Agrees, step}

-- what a line comes to is done, and the reader and the machine agree behind it
abbrev Follows : Machine → Told → Type 0
Follows m (Passed after) = Agrees after m
Follows m (Says line after) = IsDone m line × Agrees after (applied m line).machine
Follows m (Bad cause) = ⊤

header_fits : (o : Option AbiKind) (line : Line) → header_said o ≡ Ok line → is_fit line ≡ true
header_fits None line h = cc
header_fits (Some kind) line h = let same : Header kind ≡ line = cc in rw (← same) refl

said_fits : (o : Option AbiKind) (text : List ℕ) (line : Line) → said o text ≡ Ok line → is_fit line ≡ true
said_fits None text line h = header_fits (abi_of text) line h
said_fits (Some kind) text line h = line_fits kind text line h

placed : (s : Seen) (m : Machine) (line : Line) (o : Option LineCause) → misplaced s line ≡ o → Agrees s m → is_fit line ≡ true → Follows m (told_at s line o)
placed s m line None free h fits = let did = step s m line h free fits in (did.done, did.agrees)
placed s m line (Some cause) free h fits = tt

read : (s : Seen) (m : Machine) (text : List ℕ) (r : Result Line LineCause) → said s.abi text ≡ r → Agrees s m → Follows m (told s r)
read s m text (Ok line) e h = placed s m line (misplaced s line) refl h (said_fits s.abi text line e)
read s m text (Err cause) e h = tt

passed : (b : Bool) (s : Seen) (m : Machine) (t : Told) → Agrees s m → Follows m t → Follows m (cond b (Passed (counted s)) t)
passed true s m t h f = λ begun. let image = h begun in record { tree = image.tree; pages = image.pages }
passed false s m t h f = f

follows : (s : Seen) (m : Machine) (text : List ℕ) → Agrees s m → Follows m (line_told s text)
unfolding line_told
follows s m text h = passed (is_passed text) s m (told s (said s.abi text)) h (read s m text (said s.abi text) refl h)

told_done : (n : ℕ) (t : Told) (go : Seen → ScriptText) (m : Machine) → Follows m t → ((after : Seen) (now : Machine) → Agrees after now → AreDone now (go after).records) → AreDone m (script_told n t go).records
told_done n (Passed after) go m f rest = rest after m f
told_done n (Says line after) go m f rest = (f.0, rest after (applied m line).machine f.1)
told_done n (Bad cause) go m f rest = tt

chosen : (large feed long : Bool) (n : ℕ) (t more : ScriptText) (m : Machine) → AreDone m t.records → AreDone m more.records
    → AreDone m (cond large (ends endings.TooLarge) (cond feed t (cond long (ends (endings.BadLine n causes.Long)) more))).records
chosen true feed long n t more m a b = tt
chosen false true long n t more m a b = a
chosen false false true n t more m a b = tt
chosen false false false n t more m a b = b

done_from : (bytes : List ℕ) (s : Seen) (line : List ℕ) (count : ℕ) (m : Machine) → Agrees s m → AreDone m (script_from s line count bytes).records
unfolding script_from
done_from [] s line count m h = tt
done_from (b ∷ bs) s line count m h =
    chosen (nat_le limit count) (b == 10) (length line == 16384) (s.lines + 1)
    (script_told (s.lines + 1) (line_told s line) (λ after. script_from after [] (count + 1) bs))
    (script_from s (line ++ b ∷ []) (count + 1) bs) m
    (told_done (s.lines + 1) (line_told s line) (λ after. script_from after [] (count + 1) bs) m (follows s m line h) (λ after now g. done_from bs after [] (count + 1) now g))
    (done_from bs s (line ++ b ∷ []) (count + 1) m h)

start_agrees : Agrees new_seen start
unfolding start started fresh_files fresh_tree
start_agrees begun = record {
  tree = record { names = refl; alike = λ q. refl; short = λ q content there. cc };
  pages = refl;
}

pub image_lines_are_done : ImageLinesAreDone
unfolding script_of
image_lines_are_done bytes = done_from bytes new_seen [] 0 start start_agrees
