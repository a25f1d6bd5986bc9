-- The parts of a rule behind its head: matches, and the target behind them. Each has its size in 2 bytes, its name in 29,
-- which ends at its first zero, its revision in 1, and its data.
use Rattle.std.specs.Prelude.{ℕ, ◌-◌, ◌/◌, ◌%◌, ◌^◌, List, [], ◌∷◌, ◌++◌, length, codes}
use Rattle.rule_bytes.specs.declared.layout.BlobLayout.{BlobLayout}
use Rattle.rule_bytes.specs.declared.layout.BlobLayout.TheVariants.{Ia32, Arm, Native}
use Rattle.rule_bytes.specs.declared.parts.MatchKind.{MatchKind}
use Rattle.rule_bytes.specs.declared.parts.MatchKind.TheVariants as matching
use Rattle.rule_bytes.specs.declared.parts.TargetKind.{TargetKind}
use Rattle.rule_bytes.specs.declared.parts.TargetKind.TheVariants as targeting
use Rattle.kernel_values.specs.declared.rules.RuleMatch.{RuleMatch}
use Rattle.kernel_values.specs.declared.rules.RuleMatch.TheVariants as match_of
use Rattle.kernel_values.specs.declared.rules.RuleTarget.{RuleTarget}
use Rattle.kernel_values.specs.declared.rules.RuleTarget.TheVariants as target_of
use Rattle.rule_bytes.specs.Spelling.{Spelling, given, number, free}

-- a kind of part: its name, its revision, and how many bytes it has on i386, on Arm and in the 64-bit kernel
pub record PartFront : Type 0 where
  pub name : List ℕ
  pub revision : ℕ
  pub ia32 : ℕ
  pub arm : ℕ
  pub native : ℕ

abbrev pub front : List ℕ → ℕ → ℕ → ℕ → ℕ → PartFront
front name revision ia32 arm native = record { name = name; revision = revision; ia32 = ia32; arm = arm; native = native }

abbrev pub match_front : MatchKind → PartFront
match_front matching.Tcp = front (codes "tcp") 0 44 48 48
match_front matching.Udp = front (codes "udp") 0 44 48 48
match_front matching.Mark = front (codes "mark") 1 44 48 48
match_front matching.Limit = front (codes "limit") 0 60 64 72

abbrev pub target_front : TargetKind → PartFront
target_front targeting.Verdict = front [] 0 36 40 40
target_front targeting.Error = front (codes "ERROR") 0 64 64 64
target_front targeting.Mark = front (codes "MARK") 2 40 40 40

abbrev pub match_kinds : List MatchKind
match_kinds = matching.Tcp ∷ matching.Udp ∷ matching.Mark ∷ matching.Limit ∷ []

abbrev pub target_kinds : List TargetKind
target_kinds = targeting.Verdict ∷ targeting.Error ∷ targeting.Mark ∷ []

-- how many bytes a part has
abbrev pub size_of : BlobLayout → PartFront → ℕ
size_of Ia32 f = f.ia32
size_of Arm f = f.arm
size_of Native f = f.native

-- size, name, revision and data
abbrev pub part : BlobLayout → PartFront → Spelling → Spelling
part l f data_bytes =
    number 2 (size_of l f) ++ (given (f.name ++ 0 ∷ []) ++ (free (28 - length f.name) ++ (number 1 f.revision ++ data_bytes)))

-- free bytes from an offset in a part to its end
abbrev pub padding : BlobLayout → PartFront → ℕ → Spelling
padding l f from = free (size_of l f - from)

abbrev pub match_kind : RuleMatch → MatchKind
match_kind (match_of.Tcp bytes) = matching.Tcp
match_kind (match_of.Udp bytes) = matching.Udp
match_kind (match_of.Mark mark mask invert) = matching.Mark
match_kind (match_of.Limit avg burst prev credit top cost) = matching.Limit

-- what is a part's data, and its padding
abbrev pub tcp_data : BlobLayout → List ℕ → Spelling
tcp_data l bytes = given bytes ++ padding l (match_front matching.Tcp) 44

abbrev pub udp_data : BlobLayout → List ℕ → Spelling
udp_data l bytes = given bytes ++ padding l (match_front matching.Udp) 41

abbrev pub mark_data : BlobLayout → ℕ → ℕ → ℕ → Spelling
mark_data l mark mask invert =
    number 4 mark ++ (number 4 mask ++ (number 1 invert ++ padding l (match_front matching.Mark) 41))

-- with words of 4 bytes, the upper half of `prev` stands in the place of a pointer
abbrev pub narrow_limit_data : BlobLayout → ℕ → ℕ → ℕ → ℕ → ℕ → ℕ → Spelling
narrow_limit_data l avg burst prev credit top cost =
    number 4 avg ++ (number 4 burst ++ (number 4 (prev % 2 ^ 32) ++ (number 4 credit ++ (number 4 top ++ (number 4 cost
    ++ (number 4 (prev / 2 ^ 32) ++ padding l (match_front matching.Limit) 60))))))

-- with words of 8 bytes, a gap and the pointer are free
abbrev pub wide_limit_data : ℕ → ℕ → ℕ → ℕ → ℕ → ℕ → Spelling
wide_limit_data avg burst prev credit top cost =
    number 4 avg ++ (number 4 burst ++ (number 8 prev ++ (number 4 credit ++ (number 4 top ++ (number 4 cost ++ free 12)))))

abbrev pub limit_data : BlobLayout → ℕ → ℕ → ℕ → ℕ → ℕ → ℕ → Spelling
limit_data Ia32 avg burst prev credit top cost = narrow_limit_data Ia32 avg burst prev credit top cost
limit_data Arm avg burst prev credit top cost = narrow_limit_data Arm avg burst prev credit top cost
limit_data Native avg burst prev credit top cost = wide_limit_data avg burst prev credit top cost

abbrev pub match_data : BlobLayout → RuleMatch → Spelling
match_data l (match_of.Tcp bytes) = tcp_data l bytes
match_data l (match_of.Udp bytes) = udp_data l bytes
match_data l (match_of.Mark mark mask invert) = mark_data l mark mask invert
match_data l (match_of.Limit avg burst prev credit top cost) = limit_data l avg burst prev credit top cost

abbrev pub match_size : BlobLayout → RuleMatch → ℕ
match_size l m = size_of l (match_front (match_kind m))

unfoldable pub match_spelling : BlobLayout → RuleMatch → Spelling
match_spelling l m = part l (match_front (match_kind m)) (match_data l m)

abbrev pub target_kind : RuleTarget → TargetKind
target_kind target_of.Drop = targeting.Verdict
target_kind target_of.Accept = targeting.Verdict
target_kind target_of.Queue = targeting.Verdict
target_kind target_of.Return = targeting.Verdict
target_kind (target_of.Jump to) = targeting.Verdict
target_kind (target_of.Error bytes) = targeting.Error
target_kind (target_of.Mark mark mask) = targeting.Mark

-- a verdict below 0 as a word; above 0 it is a jump
abbrev pub verdict_data : BlobLayout → ℕ → Spelling
verdict_data l word = number 4 word ++ padding l (target_front targeting.Verdict) 36

abbrev pub error_data : BlobLayout → List ℕ → Spelling
error_data l bytes = given bytes ++ padding l (target_front targeting.Error) 62

abbrev pub set_mark_data : BlobLayout → ℕ → ℕ → Spelling
set_mark_data l mark mask = number 4 mark ++ (number 4 mask ++ padding l (target_front targeting.Mark) 40)

abbrev pub target_data : BlobLayout → RuleTarget → Spelling
target_data l target_of.Drop = verdict_data l (2 ^ 32 - 1)
target_data l target_of.Accept = verdict_data l (2 ^ 32 - 2)
target_data l target_of.Queue = verdict_data l (2 ^ 32 - 4)
target_data l target_of.Return = verdict_data l (2 ^ 32 - 5)
target_data l (target_of.Jump to) = verdict_data l to
target_data l (target_of.Error bytes) = error_data l bytes
target_data l (target_of.Mark mark mask) = set_mark_data l mark mask

abbrev pub target_size : BlobLayout → RuleTarget → ℕ
target_size l t = size_of l (target_front (target_kind t))

unfoldable pub target_spelling : BlobLayout → RuleTarget → Spelling
target_spelling l t = part l (target_front (target_kind t)) (target_data l t)
