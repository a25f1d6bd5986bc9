-- The rules that bytes spell, or their first fault: causes in their order within a rule, and rule by rule to the end.
use Rattle.std.specs.Prelude.{ℕ, zero, suc, pred, ◌+◌, ◌-◌, ◌*◌, ◌%◌, ◌^◌, ◌==◌, ◌&&◌, ◌||◌, not, nat_lt, if◌then◌else◌, Bool, true, false, List, [], ◌∷◌, ◌++◌, length, take, drop, slice_range, find, Option, Result, Ok, Err}
use Rattle.std.specs.List.{list_any}
use Rattle.byteorder.specs.Endian.{little_number}
use Rattle.kernel_values.specs.declared.rules.BlobCause.{BlobCause}
use Rattle.kernel_values.specs.declared.rules.BlobCause.TheVariants.{Short, Offsets, Flags, MatchShape, MatchUnknown, Protocol, TargetShape, TargetUnknown, Verdict}
use Rattle.kernel_values.specs.declared.rules.BlobFault.{BlobFault}
use Rattle.rule_bytes.specs.declared.layout.BlobLayout.{BlobLayout}
use Rattle.rule_bytes.specs.declared.layout.BlobLayout.TheVariants.{Ia32, Arm, Native}
use Rattle.rule_bytes.specs.declared.parts.MatchKind.{MatchKind}
use Rattle.rule_bytes.specs.declared.parts.MatchKind.TheVariants as matching
use Rattle.rule_bytes.specs.declared.parts.TargetKind.{TargetKind}
use Rattle.rule_bytes.specs.declared.parts.TargetKind.TheVariants as targeting
use Rattle.kernel_values.specs.declared.rules.RuleMatch.{RuleMatch}
use Rattle.kernel_values.specs.declared.rules.RuleMatch.TheVariants as match_of
use Rattle.kernel_values.specs.declared.rules.RuleTarget.{RuleTarget}
use Rattle.kernel_values.specs.declared.rules.RuleTarget.TheVariants as target_of
use Rattle.rule_bytes.specs.Faults.{◌>>=◌, ◌>>◌, refused_if, found_or}
use Rattle.rule_bytes.specs.Parts.{PartFront, match_front, match_kinds, match_size, size_of, target_front, target_kinds}
use Rattle.rule_bytes.specs.Rules.{Rule, goes_with, has_known_flags, rule_size}

-- the number in n bytes at an offset
abbrev pub number_in : ℕ → ℕ → List ℕ → ℕ
number_in n at bytes = little_number n (drop at bytes)

-- one list stands in front of another
abbrev pub is_front : List ℕ → List ℕ → Bool
is_front [] bytes = true
is_front (x ∷ xs) [] = false
is_front (x ∷ xs) (b ∷ bytes) = (b == x) && is_front xs bytes

-- the front that a part has, by the bytes from its name on, and its revision
abbrev pub is_named : PartFront → List ℕ → ℕ → Bool
is_named f name revision = is_front (f.name ++ 0 ∷ []) name && (revision == f.revision)

abbrev pub kind_named : {K : Type 0} → (K → PartFront) → List K → List ℕ → ℕ → Option K
kind_named fronts kinds name revision = find (λ k. is_named (fronts k) name revision) kinds

-- some byte of a name is 0
abbrev pub is_ended : List ℕ → Bool
is_ended name = list_any (λ b. b == 0) name

-- a kind, where its part has the right size
abbrev pub sized : {K : Type 0} → ℕ → BlobCause → List ℕ → K → Result K BlobCause
sized size shape bytes k = do
  refused_if (not (number_in 2 0 bytes == size)) shape
  Ok k

-- the kind of the part in front of bytes: its name, whether there is one with it, and its size
unfoldable pub kind_at : {K : Type 0} → BlobLayout → (K → PartFront) → List K → BlobCause → BlobCause → List ℕ → Result K BlobCause
kind_at l fronts kinds shape unknown bytes = do
  refused_if (not (is_ended (take 29 (drop 2 bytes)))) shape
  k ← found_or unknown (kind_named fronts kinds (drop 2 bytes) (number_in 1 31 bytes))
  sized (size_of l (fronts k)) shape bytes k

-- `prev` of a limit
abbrev pub prev_in : BlobLayout → List ℕ → ℕ
prev_in Ia32 bytes = number_in 4 40 bytes + 2 ^ 32 * number_in 4 56 bytes
prev_in Arm bytes = number_in 4 40 bytes + 2 ^ 32 * number_in 4 56 bytes
prev_in Native bytes = number_in 8 40 bytes

-- where the numbers behind it stand
abbrev pub behind_prev : BlobLayout → ℕ
behind_prev Ia32 = 44
behind_prev Arm = 44
behind_prev Native = 48

-- a match of a kind, by its bytes
unfoldable pub match_in : BlobLayout → MatchKind → List ℕ → RuleMatch
match_in l matching.Tcp bytes = match_of.Tcp (take 12 (drop 32 bytes))
match_in l matching.Udp bytes = match_of.Udp (take 9 (drop 32 bytes))
match_in l matching.Mark bytes = match_of.Mark (number_in 4 32 bytes) (number_in 4 36 bytes) (number_in 1 40 bytes)
match_in l matching.Limit bytes =
    match_of.Limit (number_in 4 32 bytes) (number_in 4 36 bytes) (prev_in l bytes)
    (number_in 4 (behind_prev l) bytes) (number_in 4 (behind_prev l + 4) bytes) (number_in 4 (behind_prev l + 8) bytes)

-- no part begins in these bytes, or it ends outside them
abbrev pub is_no_part : List ℕ → Bool
is_no_part bytes = nat_lt (length bytes) 32 || (nat_lt (number_in 2 0 bytes) 32 || nat_lt (length bytes) (number_in 2 0 bytes))

-- a match, where it goes with the rule's IP part
abbrev pub suited : List ℕ → RuleMatch → Result RuleMatch BlobCause
suited ip m = do
  refused_if (not (goes_with ip m)) Protocol
  Ok m

-- the match in front of bytes
unfoldable pub match_at : BlobLayout → List ℕ → List ℕ → Result RuleMatch BlobCause
match_at l ip bytes = do
  refused_if (is_no_part bytes) MatchShape
  k ← kind_at l match_front match_kinds MatchShape MatchUnknown bytes
  suited ip (match_in l k bytes)

-- matches one after another to the end of bytes, of which some are passed over first
unfoldable pub matches_past : BlobLayout → List ℕ → ℕ → List ℕ → Result (List RuleMatch) BlobCause
matches_past l ip n [] = Ok []
matches_past l ip (suc n) (b ∷ bytes) = matches_past l ip n bytes
matches_past l ip zero (b ∷ bytes) = do
  m ← match_at l ip (b ∷ bytes)
  ms ← matches_past l ip (pred (match_size l m)) bytes
  Ok (m ∷ ms)

-- a verdict, by its word
abbrev pub verdict_of : ℕ → Result RuleTarget BlobCause
verdict_of word =
    if word == 2 ^ 32 - 1 then Ok target_of.Drop
    else (if word == 2 ^ 32 - 2 then Ok target_of.Accept
    else (if word == 2 ^ 32 - 4 then Ok target_of.Queue
    else (if word == 2 ^ 32 - 5 then Ok target_of.Return
    else (if nat_lt 0 word && nat_lt word (2 ^ 31) then Ok (target_of.Jump word) else Err Verdict))))

-- a target of a kind, by its bytes
unfoldable pub target_in : TargetKind → List ℕ → Result RuleTarget BlobCause
target_in targeting.Verdict bytes = verdict_of (number_in 4 32 bytes)
target_in targeting.Error bytes = Ok (target_of.Error (take 30 (drop 32 bytes)))
target_in targeting.Mark bytes = Ok (target_of.Mark (number_in 4 32 bytes) (number_in 4 36 bytes))

-- the target that all of these bytes are
unfoldable pub target_at : BlobLayout → List ℕ → Result RuleTarget BlobCause
target_at l bytes = do
  refused_if (not (number_in 2 0 bytes == length bytes)) TargetShape
  k ← kind_at l target_front target_kinds TargetShape TargetUnknown bytes
  target_in k bytes

-- what parts are aligned to
abbrev pub alignment : BlobLayout → ℕ
alignment Ia32 = 4
alignment Arm = 8
alignment Native = 8

-- where target and next rule can't begin, in a rule that has n bytes or fewer
abbrev pub are_bad_offsets : BlobLayout → ℕ → ℕ → ℕ → Bool
are_bad_offsets l target next n =
    nat_lt target 112 || (nat_lt next (target + 32)
    || (not (target % alignment l == 0) || (not (next % alignment l == 0) || nat_lt n next)))

abbrev pub rule_with : List ℕ → List RuleMatch → RuleTarget → Rule
rule_with bytes ms t = record { ip = take 84 bytes; matches = ms; target = t; packets = number_in 8 96 bytes; bytes = number_in 8 104 bytes }

-- a rule, where its native length has 16 bits
abbrev pub short_enough : Rule → Result Rule BlobCause
short_enough r = do
  refused_if (nat_lt 65535 (rule_size Native r)) Offsets
  Ok r

-- the matches and the target of the rule in front of bytes, whose offsets are good
abbrev pub matches_at : BlobLayout → List ℕ → Result (List RuleMatch) BlobCause
matches_at l bytes = matches_past l (take 84 bytes) 0 (slice_range bytes 112 (number_in 2 88 bytes))

abbrev pub rule_target : BlobLayout → List ℕ → Result RuleTarget BlobCause
rule_target l bytes = target_at l (slice_range bytes (number_in 2 88 bytes) (number_in 2 90 bytes))

-- the rule in front of bytes
unfoldable pub rule_at : BlobLayout → List ℕ → Result Rule BlobCause
rule_at l bytes = do
  refused_if (nat_lt (length bytes) 112) Short
  refused_if (are_bad_offsets l (number_in 2 88 bytes) (number_in 2 90 bytes) (length bytes)) Offsets
  refused_if (not (has_known_flags (take 84 bytes))) Flags
  ms ← matches_at l bytes
  t ← rule_target l bytes
  short_enough (rule_with bytes ms t)

-- a cause, at the rule of an index
abbrev pub told_at : {A : Type 0} → ℕ → Result A BlobCause → Result A BlobFault
told_at i (Ok x) = Ok x
told_at i (Err cause) = Err (record { rule = i; cause = cause })

-- rules one after another to the end of bytes, of which some are passed over first; i is the index of the first of them
unfoldable pub rules_past : BlobLayout → ℕ → ℕ → List ℕ → Result (List Rule) BlobFault
rules_past l i n [] = Ok []
rules_past l i (suc n) (b ∷ bytes) = rules_past l i n bytes
rules_past l i zero (b ∷ bytes) = do
  r ← told_at i (rule_at l (b ∷ bytes))
  rs ← rules_past l (i + 1) (pred (rule_size l r)) bytes
  Ok (r ∷ rs)

-- the rules of a blob; jumps have places
abbrev pub rules_in : BlobLayout → List ℕ → Result (List Rule) BlobFault
rules_in l bytes = rules_past l 0 0 bytes
