-- The laws of a script's bytes: those behind a front change nothing that the front gives, and a script is its first
-- record in front of the script of the bytes behind it.
use Rattle.std.proofs.Common.{◌≡◌, ℕ, ◌+◌, Bool, true, false, cond, eqb, leb, List, [], ◌∷◌, ◌++◌, length, refl, sym, ap, ◌∙◌, add-zero, arith}
use Rattle.script_reader.specs.declared.fault.LineCause.{LineCause}
use Rattle.script_reader.specs.declared.fault.LineCause.TheVariants as causes
use Rattle.script_reader.specs.declared.seen.Seen.{Seen}
use Rattle.script_reader.specs.Ending.{ScriptText, ends}
use Rattle.script_reader.specs.Ending as endings
use Rattle.script_reader.specs.Grammar.{Line}
use Rattle.script_reader.specs.Seen.{Told, Passed, Says, Bad, line_told}
use Rattle.script_reader.specs.Script.{Next, Given, AtEnd, BadLine, TooLarge, limit, next_told, next_from, next_with, script_told, script_from, script_of, script_by}
use Rattle.script_reader.specs.Reads.{new_script, script_left}

with_cond : (b : Bool) (x y x' y' : Next) (more : List ℕ) → x' ≡ next_with x more → y' ≡ next_with y more → cond b x' y' ≡ next_with (cond b x y) more
with_cond true x y x' y' more e f = e
with_cond false x y x' y' more e f = f

with_told : (told : Told) (number count : ℕ) (rest more : List ℕ) (go go' : Seen → Next) → ((after : Seen) → go' after ≡ next_with (go after) more)
    → next_told number told count (rest ++ more) go' ≡ next_with (next_told number told count rest go) more
with_told (Passed after) number count rest more go go' h = h after
with_told (Says line after) number count rest more go go' h = refl
with_told (Bad cause) number count rest more go go' h = refl

-- bytes behind others change nothing that these give
pub next_from-append : (bytes more : List ℕ) (seen : Seen) (line : List ℕ) (count : ℕ) → next_from seen line count (bytes ++ more) ≡ next_with (next_from seen line count bytes) more
unfolding next_from
next_from-append [] more seen line count = refl
next_from-append (b ∷ bs) more seen line count =
    let long : Next = BadLine (seen.lines + 1) causes.Long in
    let told = λ (rest : List ℕ). next_told (seen.lines + 1) (line_told seen line) (count + 1) rest (λ after. next_from after [] (count + 1) rest) in
    let on = λ (rest : List ℕ). next_from seen (line ++ b ∷ []) (count + 1) rest in
    with_cond (leb limit count) TooLarge (cond (eqb b 10) (told bs) (cond (eqb (length line) 16384) long (on bs))) TooLarge (cond (eqb b 10) (told (bs ++ more)) (cond (eqb (length line) 16384) long (on (bs ++ more)))) more refl
    (with_cond (eqb b 10) (told bs) (cond (eqb (length line) 16384) long (on bs)) (told (bs ++ more)) (cond (eqb (length line) 16384) long (on (bs ++ more))) more
    (with_told (line_told seen line) (seen.lines + 1) (count + 1) bs more (λ after. next_from after [] (count + 1) bs) (λ after. next_from after [] (count + 1) (bs ++ more)) (λ after. next_from-append bs more after [] (count + 1)))
    (with_cond (eqb (length line) 16384) long (on bs) long (on (bs ++ more)) more refl (next_from-append bs more seen (line ++ b ∷ []) (count + 1))))

by_cond : (b : Bool) (x y : Next) (x' y' : ScriptText) → x' ≡ script_by x → y' ≡ script_by y → cond b x' y' ≡ script_by (cond b x y)
by_cond true x y x' y' e f = e
by_cond false x y x' y' e f = f

by_told : (told : Told) (number count : ℕ) (rest : List ℕ) (go : Seen → Next) → ((after : Seen) → script_from after [] count rest ≡ script_by (go after))
    → script_told number told (λ after. script_from after [] count rest) ≡ script_by (next_told number told count rest go)
by_told (Passed after) number count rest go h = h after
by_told (Says line after) number count rest go h = refl
by_told (Bad cause) number count rest go h = refl

-- a script is what comes first in it, in front of the script of the bytes behind that
pub script_from-next : (bytes : List ℕ) (seen : Seen) (line : List ℕ) (count : ℕ) → script_from seen line count bytes ≡ script_by (next_from seen line count bytes)
unfolding next_from script_from
script_from-next [] seen line count = refl
script_from-next (b ∷ bs) seen line count =
    let long : Next = BadLine (seen.lines + 1) causes.Long in
    let told = next_told (seen.lines + 1) (line_told seen line) (count + 1) bs (λ after. next_from after [] (count + 1) bs) in
    let on = next_from seen (line ++ b ∷ []) (count + 1) bs in
    let ends_long : ScriptText = ends (endings.BadLine (seen.lines + 1) causes.Long) in
    let script = script_told (seen.lines + 1) (line_told seen line) (λ after. script_from after [] (count + 1) bs) in
    let on_script = script_from seen (line ++ b ∷ []) (count + 1) bs in
    by_cond (leb limit count) TooLarge (cond (eqb b 10) told (cond (eqb (length line) 16384) long on)) (ends endings.TooLarge) (cond (eqb b 10) script (cond (eqb (length line) 16384) ends_long on_script)) refl
    (by_cond (eqb b 10) told (cond (eqb (length line) 16384) long on) script (cond (eqb (length line) 16384) ends_long on_script)
    (by_told (line_told seen line) (seen.lines + 1) (count + 1) bs (λ after. next_from after [] (count + 1) bs) (λ after. script_from-next bs after [] (count + 1)))
    (by_cond (eqb (length line) 16384) long on ends_long on_script refl (script_from-next bs seen (line ++ b ∷ []) (count + 1))))

no_end : (seen : Seen) (so_far : List ℕ) (count : ℕ) (line : Line) (after : Seen) (count' : ℕ) (rest : List ℕ) → AtEnd seen so_far count ≡ Given line after count' rest → ⊥
no_end seen so_far count line after count' rest e = cc

no_large : (line : Line) (after : Seen) (count' : ℕ) (rest : List ℕ) → TooLarge ≡ Given line after count' rest → ⊥
no_large line after count' rest e = cc

no_bad : (number : ℕ) (cause : LineCause) (line : Line) (after : Seen) (count' : ℕ) (rest : List ℕ) → BadLine number cause ≡ Given line after count' rest → ⊥
no_bad number cause line after count' rest e = cc

-- where n gives a record, a front of the bytes alone gives it too, and its bytes have gone by
abbrev Fronts : ℕ → Next → List ℕ → (List ℕ → Next) → Type 0
Fronts count n bytes f = (line : Line) (seen : Seen) (count' : ℕ) (rest : List ℕ) → n ≡ Given line seen count' rest → (front : List ℕ) × (bytes ≡ front ++ rest) × (f front ≡ Given line seen count' []) × (count' ≡ count + length front)

fronts_cond : (b : Bool) (count : ℕ) (x y : Next) (bytes : List ℕ) (f g : List ℕ → Next) → Fronts count x bytes f → Fronts count y bytes g → Fronts count (cond b x y) bytes (λ xs. cond b (f xs) (g xs))
fronts_cond true count x y bytes f g h k = h
fronts_cond false count x y bytes f g h k = k

fronts_told : (told : Told) (number count : ℕ) (bytes : List ℕ) (go : List ℕ → Seen → Next) → ((after : Seen) → Fronts count (go bytes after) bytes (λ xs. go xs after))
    → Fronts count (next_told number told count bytes (go bytes)) bytes (λ xs. next_told number told count xs (go xs))
fronts_told (Passed after) number count bytes go h = h after
fronts_told (Says l after) number count bytes go h = λ line seen count' rest e.
    let same : bytes ≡ rest = cc in
    let given : Given l after count [] ≡ Given line seen count' [] = cc in
    let counts : count ≡ count' = cc in
    ([], same, given, sym counts ∙ sym (add-zero count))
fronts_told (Bad cause) number count bytes go h = λ line seen count' rest e. absurd (no_bad number cause line seen count' rest e)

-- a record is given by its own bytes and those of the lines passed over before it
pub given_front : (bytes : List ℕ) (from : Seen) (so_far : List ℕ) (count : ℕ) (line : Line) (seen : Seen) (count' : ℕ) (rest : List ℕ) → next_from from so_far count bytes ≡ Given line seen count' rest
    → (front : List ℕ) × (bytes ≡ front ++ rest) × (next_from from so_far count front ≡ Given line seen count' []) × (count' ≡ count + length front)
unfolding next_from
given_front [] from so_far count line seen count' rest e = absurd (no_end from so_far count line seen count' rest e)
given_front (b ∷ bs) from so_far count line seen count' rest e =
    let long : Next = BadLine (from.lines + 1) causes.Long in
    let told = λ (xs : List ℕ). next_told (from.lines + 1) (line_told from so_far) (count + 1) xs (λ after. next_from after [] (count + 1) xs) in
    let on = λ (xs : List ℕ). next_from from (so_far ++ b ∷ []) (count + 1) xs in
    let inner = λ (xs : List ℕ). cond (eqb (length so_far) 16384) long (on xs) in
    let outer = λ (xs : List ℕ). cond (eqb b 10) (told xs) (inner xs) in
    let found = fronts_cond (leb limit count) (count + 1) TooLarge (outer bs) bs (λ xs. TooLarge) outer (λ l s c r f. absurd (no_large l s c r f))
    (fronts_cond (eqb b 10) (count + 1) (told bs) (inner bs) bs told inner
    (fronts_told (line_told from so_far) (from.lines + 1) (count + 1) bs (λ xs after. next_from after [] (count + 1) xs) (λ after. given_front bs after [] (count + 1)))
    (fronts_cond (eqb (length so_far) 16384) (count + 1) long (on bs) bs (λ xs. long) on (λ l s c r f. absurd (no_bad (from.lines + 1) causes.Long l s c r f)) (given_front bs from (so_far ++ b ∷ []) (count + 1))))
    line seen count' rest e in
    (b ∷ found.0, ap (λ (xs : List ℕ). b ∷ xs) found.1, found.2, omega (arith, found.3))

-- what a new reader has left is the whole script
pub script_left-new : (bytes : List ℕ) → script_left new_script bytes ≡ script_of bytes
unfolding script_of
script_left-new bytes = refl
