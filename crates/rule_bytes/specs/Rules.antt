-- Rules, and the bytes that spell one.
use Rattle.std.specs.Prelude.{◌≡◌, ◌≤◌, ◌<◌, ℕ, ◌+◌, ◌^◌, ◌==◌, ◌&&◌, nat_le, nat_lt, Bool, true, List, [], ◌∷◌, ◌++◌, length, get_or, drop}
use Rattle.std.specs.List.{flat_map, AllByRecursion}
use Rattle.byteorder.specs.Endian.{little_number}
use Rattle.rule_bytes.specs.declared.layout.BlobLayout.{BlobLayout}
use Rattle.rule_bytes.specs.declared.layout.BlobLayout.TheVariants.{Native}
use Rattle.kernel_values.specs.declared.rules.RuleMatch.{RuleMatch}
use Rattle.kernel_values.specs.declared.rules.RuleMatch.TheVariants as match_of
use Rattle.kernel_values.specs.declared.rules.RuleTarget.{RuleTarget}
use Rattle.kernel_values.specs.declared.rules.RuleTarget.TheVariants as target_of
use Rattle.rule_bytes.specs.Spelling.{Spelling, given, number, free}
use Rattle.rule_bytes.specs.Parts.{match_size, match_spelling, target_size, target_spelling}

-- a rule; its IP part is 84 bytes, with the protocol at 80, flags at 82 and inverting flags at 83
pub record Rule : Type 0 where
  pub ip : List ℕ
  pub matches : List RuleMatch
  pub target : RuleTarget
  pub packets : ℕ
  pub bytes : ℕ

abbrev pub matches_size : BlobLayout → List RuleMatch → ℕ
matches_size l [] = 0
matches_size l (m ∷ ms) = match_size l m + matches_size l ms

-- a head of 112 bytes, the matches, and the target
abbrev pub target_offset : BlobLayout → List RuleMatch → ℕ
target_offset l ms = 112 + matches_size l ms

abbrev pub next_offset : BlobLayout → List RuleMatch → RuleTarget → ℕ
next_offset l ms t = target_offset l ms + target_size l t

abbrev pub rule_size : BlobLayout → Rule → ℕ
rule_size l r = next_offset l r.matches r.target

-- the IP part, nfcache, both offsets, comefrom, both counters; matches and target
unfoldable pub rule_spelling : BlobLayout → Rule → Spelling
rule_spelling l r =
    given r.ip ++ (free 4 ++ (number 2 (target_offset l r.matches) ++ (number 2 (rule_size l r)
    ++ (free 4 ++ (number 8 r.packets ++ (number 8 r.bytes ++ (flat_map (match_spelling l) r.matches ++ target_spelling l r.target)))))))

-- rules one after another
abbrev pub rules_spelling : BlobLayout → List Rule → Spelling
rules_spelling l rs = flat_map (rule_spelling l) rs

abbrev pub protocol : List ℕ → ℕ
protocol ip = little_number 2 (drop 80 ip)

abbrev pub flags : List ℕ → ℕ
flags ip = get_or ip 82 0

abbrev pub inverting_flags : List ℕ → ℕ
inverting_flags ip = get_or ip 83 0

-- flags within 3, and inverting flags within 0x7f
abbrev pub has_known_flags : List ℕ → Bool
has_known_flags ip = nat_le (flags ip) 3 && nat_le (inverting_flags ip) 127

-- the rule is for this protocol alone, and not for all others. Of inverting flags within 0x7f, 0x40 inverts the protocol
abbrev pub is_for : ℕ → List ℕ → Bool
is_for p ip = (protocol ip == p) && nat_lt (inverting_flags ip) 64

-- a match may stand in a rule with this IP part: tcp with protocol 6 and its own inverting flags within 0x0f, udp with 17
-- and within 0x03
abbrev pub goes_with : List ℕ → RuleMatch → Bool
goes_with ip (match_of.Tcp bytes) = is_for 6 ip && nat_le (get_or bytes 11 0) 15
goes_with ip (match_of.Udp bytes) = is_for 17 ip && nat_le (get_or bytes 8 0) 3
goes_with ip (match_of.Mark mark mask invert) = true
goes_with ip (match_of.Limit avg burst prev credit top cost) = true

abbrev pub IsBytes : List ℕ → Type 0
IsBytes bytes = (i : ℕ) → get_or bytes i 0 < 256

-- a match whose numbers fit their bytes
abbrev pub MatchFits : RuleMatch → Type 0
MatchFits (match_of.Tcp bytes) = length bytes ≡ 12
MatchFits (match_of.Udp bytes) = length bytes ≡ 9
MatchFits (match_of.Mark mark mask invert) = (mark < 256 ^ 4) × (mask < 256 ^ 4) × (invert < 256 ^ 1)
MatchFits (match_of.Limit avg burst prev credit top cost) =
    (avg < 256 ^ 4) × (burst < 256 ^ 4) × (prev < 256 ^ 8) × (credit < 256 ^ 4) × (top < 256 ^ 4) × (cost < 256 ^ 4)

-- a target whose numbers fit their bytes; a jump is a verdict above 0
abbrev pub TargetFits : RuleTarget → Type 0
TargetFits target_of.Drop = Unit {0}
TargetFits target_of.Accept = Unit {0}
TargetFits target_of.Queue = Unit {0}
TargetFits target_of.Return = Unit {0}
TargetFits (target_of.Jump to) = (0 < to) × (to < 2 ^ 31)
TargetFits (target_of.Error bytes) = length bytes ≡ 30
TargetFits (target_of.Mark mark mask) = (mark < 256 ^ 4) × (mask < 256 ^ 4)

-- A rule that can be spelled, with known flags, and with matches that may stand in it. Its native length has 16 bits
pub record IsRule (r : Rule) : Type 0 where
  pub ip : length r.ip ≡ 84
  pub flags : has_known_flags r.ip ≡ true
  pub matches : AllByRecursion (λ m. MatchFits m × (goes_with r.ip m ≡ true)) r.matches
  pub target : TargetFits r.target
  pub packets : r.packets < 256 ^ 8
  pub bytes : r.bytes < 256 ^ 8
  pub native : rule_size Native r ≤ 65535
