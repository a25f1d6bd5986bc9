use Rattle.std.proofs.Common.{◌≡◌, ◌≤◌, ◌-◌, ◌++◌, ℕ, List, length, take, drop, Result, Ok, sym, ap, ◌∙◌, arith, length-drop}
use borrow.Rule.Slice.PartMut.{put_mid, same_len_mid}
use Rattle.std.proofs.lemmas.List.{length-take-le, take_rest}
use Rattle.kernel_values.specs.declared.rules.BlobCause.{BlobCause}
use Rattle.rule_bytes.specs.declared.layout.BlobLayout.TheVariants.{Native}
use Rattle.kernel_values.specs.declared.rules.RuleMatch.{RuleMatch}
use Rattle.rule_bytes.specs.Faults.{told_of}
use Rattle.rule_bytes.specs.Maps.{native_matches, native_rule}
use Rattle.rule_bytes.specs.Rules.{Rule, matches_size, target_offset}
use Rattle.rule_bytes.specs.Spelling.{put}
use Rattle.kernel_values.specs.declared.rules.RuleTarget.{RuleTarget}
use Rattle.rule_bytes.specs.declared.parts.TargetKind.{TargetKind}
use Rattle.rule_bytes.specs.Parts.{size_of, target_front, target_size, target_spelling}
use Rattle.rule_bytes.specs.Tables.{with_jump}
use Rattle.rule_bytes.proofs.PlacesFound.{size_moved}
use Rattle.rule_bytes.proofs.NativeRules.{head_of, head_regrouped, ready, three_parts}
use Rattle.rule_bytes.proofs.Results.{ok_is}
use Rattle.rule_bytes.proofs.Targets.{target_least}
use Rattle.rule_bytes.proofs.translating.put_rule.Goals as goal

pub target_of-requires-clause-low : goal.target_of-requires-clause-low
target_of-requires-clause-low c =
    let y = ready c.args.layout c.args.bytes.now (length c.args.out.now) c.requires in
    y.parts.low

pub target_of-requires-clause-gap : goal.target_of-requires-clause-gap
target_of-requires-clause-gap c =
    let y = ready c.args.layout c.args.bytes.now (length c.args.out.now) c.requires in
    y.parts.gap

pub target_of-requires-clause-high : goal.target_of-requires-clause-high
target_of-requires-clause-high c =
    let y = ready c.args.layout c.args.bytes.now (length c.args.out.now) c.requires in
    y.parts.high

pub overflow_cast-numbers : goal.overflow_cast-numbers
overflow_cast-numbers c =
    let y = ready c.args.layout c.args.bytes.now (length c.args.out.now) c.requires in
    omega (arith, y.parts.short, y.size)

pub overflow_cast-numbers-in-Ok : goal.overflow_cast-numbers-in-Ok
overflow_cast-numbers-in-Ok c =
    let y = ready c.args.layout c.args.bytes.now (length c.args.out.now) c.requires in
    omega (arith, y.parts.short, y.size)

pub u64_at-requires : goal.u64_at-requires
u64_at-requires c =
    let y = ready c.args.layout c.args.bytes.now (length c.args.out.now) c.requires in
    omega (arith, y.parts.long)

pub u64_at-requires-in-Ok : goal.u64_at-requires-in-Ok
u64_at-requires-in-Ok c =
    let y = ready c.args.layout c.args.bytes.now (length c.args.out.now) c.requires in
    omega (arith, y.parts.long)

pub ip_of-requires : goal.ip_of-requires
ip_of-requires c =
    let y = ready c.args.layout c.args.bytes.now (length c.args.out.now) c.requires in
    y.parts.long

pub put_matches_of-requires-clause-low : goal.put_matches_of-requires-clause-low
put_matches_of-requires-clause-low c =
    let y = ready c.args.layout c.args.bytes.now (length c.args.out.now) c.requires in
    y.parts.low

pub put_matches_of-requires-clause-high : goal.put_matches_of-requires-clause-high
put_matches_of-requires-clause-high c =
    let y = ready c.args.layout c.args.bytes.now (length c.args.out.now) c.requires in
    omega (arith, y.parts.gap, y.parts.high)

pub put_head-requires-clause-room : goal.put_head-requires-clause-room
put_head-requires-clause-room c =
    let y = ready c.args.layout c.args.bytes.now (length c.args.out.now) c.requires in
    omega (arith, y.size)

pub slice_bounds-put_matches_of-count : goal.slice_bounds-put_matches_of-count
slice_bounds-put_matches_of-count c =
    let y = ready c.args.layout c.args.bytes.now (length c.args.out.now) c.requires in
    let found : c.in-Ok.found ≡ y.rule.target = ok_is c.in-Ok.found y.rule.target (c.in-Ok.ensures ∙ y.parts.target) in
    let placed : c.with_jump-placed.result ≡ with_jump (λ n. c.args.jump) y.rule.target =
    c.with_jump-placed.ensures ∙ ap (λ (t : RuleTarget). with_jump (λ n. c.args.jump) t) found in
    let told : c.size.result ≡ target_size Native c.with_jump-placed.result =
    c.size.ensures ∙ ap (λ (k : TargetKind). size_of Native (target_front k)) c.of.ensures in
    let size : c.size.result ≡ target_size Native y.rule.target =
    told ∙ ap (λ (t : RuleTarget). target_size Native t) placed ∙ size_moved Native (λ n. c.args.jump) y.rule.target in
    let split : length c.args.out.now - c.size.result ≡ target_offset Native y.rule.matches = omega (arith, size, y.size) in
    omega (arith, split)

pub slice_bounds-put_matches_of-start : goal.slice_bounds-put_matches_of-start
slice_bounds-put_matches_of-start c =
    let y = ready c.args.layout c.args.bytes.now (length c.args.out.now) c.requires in
    let found : c.in-Ok.found ≡ y.rule.target = ok_is c.in-Ok.found y.rule.target (c.in-Ok.ensures ∙ y.parts.target) in
    let placed : c.with_jump-placed.result ≡ with_jump (λ n. c.args.jump) y.rule.target =
    c.with_jump-placed.ensures ∙ ap (λ (t : RuleTarget). with_jump (λ n. c.args.jump) t) found in
    let told : c.size.result ≡ target_size Native c.with_jump-placed.result =
    c.size.ensures ∙ ap (λ (k : TargetKind). size_of Native (target_front k)) c.of.ensures in
    let size : c.size.result ≡ target_size Native y.rule.target =
    told ∙ ap (λ (t : RuleTarget). target_size Native t) placed ∙ size_moved Native (λ n. c.args.jump) y.rule.target in
    let split : length c.args.out.now - c.size.result ≡ target_offset Native y.rule.matches = omega (arith, size, y.size) in
    omega (arith, split)

pub put_matches_of-requires-clause-size : goal.put_matches_of-requires-clause-size
put_matches_of-requires-clause-size c =
    let y = ready c.args.layout c.args.bytes.now (length c.args.out.now) c.requires in
    let found : c.in-Ok.found ≡ y.rule.target = ok_is c.in-Ok.found y.rule.target (c.in-Ok.ensures ∙ y.parts.target) in
    let placed : c.with_jump-placed.result ≡ with_jump (λ n. c.args.jump) y.rule.target =
    c.with_jump-placed.ensures ∙ ap (λ (t : RuleTarget). with_jump (λ n. c.args.jump) t) found in
    let told : c.size.result ≡ target_size Native c.with_jump-placed.result =
    c.size.ensures ∙ ap (λ (k : TargetKind). size_of Native (target_front k)) c.of.ensures in
    let size : c.size.result ≡ target_size Native y.rule.target =
    told ∙ ap (λ (t : RuleTarget). target_size Native t) placed ∙ size_moved Native (λ n. c.args.jump) y.rule.target in
    let split : length c.args.out.now - c.size.result ≡ target_offset Native y.rule.matches = omega (arith, size, y.size) in
    let head_length : length c.put_head.new.out ≡ length c.args.out.now = c.put_head.auto.out in
    let part : ℕ = (length c.args.out.now - c.size.result) - 112 in
    let part_is : part ≡ matches_size Native y.rule.matches = omega (arith, split) in
    let room : part ≤ length (drop 112 c.put_head.new.out) = omega (arith, length-drop 112 c.put_head.new.out, head_length, y.size, part_is) in
    let part_len : length (take part (drop 112 c.put_head.new.out)) ≡ part = length-take-le part (drop 112 c.put_head.new.out) room in
    ap (λ (r : Result (List RuleMatch) BlobCause). told_of (matches_size Native) r) y.parts.matches
    ∙ ap (λ (n : ℕ). Ok n) (sym part_is ∙ sym part_len)

pub put_target-requires : goal.put_target-requires
put_target-requires c =
    let y = ready c.args.layout c.args.bytes.now (length c.args.out.now) c.requires in
    let found : c.in-Ok.found ≡ y.rule.target = ok_is c.in-Ok.found y.rule.target (c.in-Ok.ensures ∙ y.parts.target) in
    let placed : c.with_jump-placed.result ≡ with_jump (λ n. c.args.jump) y.rule.target =
    c.with_jump-placed.ensures ∙ ap (λ (t : RuleTarget). with_jump (λ n. c.args.jump) t) found in
    let told : c.size.result ≡ target_size Native c.with_jump-placed.result =
    c.size.ensures ∙ ap (λ (k : TargetKind). size_of Native (target_front k)) c.of.ensures in
    let size : c.size.result ≡ target_size Native y.rule.target =
    told ∙ ap (λ (t : RuleTarget). target_size Native t) placed ∙ size_moved Native (λ n. c.args.jump) y.rule.target in
    let split : length c.args.out.now - c.size.result ≡ target_offset Native y.rule.matches = omega (arith, size, y.size) in
    let head_length : length c.put_head.new.out ≡ length c.args.out.now = c.put_head.auto.out in
    let part : ℕ = (length c.args.out.now - c.size.result) - 112 in
    let part_is : part ≡ matches_size Native y.rule.matches = omega (arith, split) in
    let room : part ≤ length (drop 112 c.put_head.new.out) = omega (arith, length-drop 112 c.put_head.new.out, head_length, y.size, part_is) in
    let part_len : length (take part (drop 112 c.put_head.new.out)) ≡ part = length-take-le part (drop 112 c.put_head.new.out) room in
    let whole : List ℕ = put_mid 112 part c.put_head.new.out c.put_matches_of.new.out in
    let whole_length : length whole ≡ length c.args.out.now =
    same_len_mid 112 part c.put_head.new.out c.put_matches_of.new.out c.put_matches_of.auto.out ∙ head_length in
    let least : 36 ≤ target_size Native y.rule.target = target_least Native y.rule.target in
    let seen : length (take (length whole - (length c.args.out.now - c.size.result)) (drop (length c.args.out.now - c.size.result) whole)) ≡ c.size.result =
    ap (λ (ys : List ℕ). length ys) (take_rest whole (length c.args.out.now - c.size.result)) ∙ length-drop (length c.args.out.now - c.size.result) whole
    ∙ omega (arith, whole_length, size, y.size) in
    seen ∙ told

pub returns-in-Err : goal.returns-in-Err
returns-in-Err c =
    let y = ready c.args.layout c.args.bytes.now (length c.args.out.now) c.requires in
    absurd (let e = sym y.parts.target ∙ sym c.target_of.ensures ∙ c.in-Err.is in cc)

pub returns-in-Ok : goal.returns-in-Ok
returns-in-Ok c =
    let y = ready c.args.layout c.args.bytes.now (length c.args.out.now) c.requires in
    let found : c.in-Ok.found ≡ y.rule.target = ok_is c.in-Ok.found y.rule.target (c.in-Ok.ensures ∙ y.parts.target) in
    let placed : c.with_jump-placed.result ≡ with_jump (λ n. c.args.jump) y.rule.target =
    c.with_jump-placed.ensures ∙ ap (λ (t : RuleTarget). with_jump (λ n. c.args.jump) t) found in
    let told : c.size.result ≡ target_size Native c.with_jump-placed.result =
    c.size.ensures ∙ ap (λ (k : TargetKind). size_of Native (target_front k)) c.of.ensures in
    let size : c.size.result ≡ target_size Native y.rule.target =
    told ∙ ap (λ (t : RuleTarget). target_size Native t) placed ∙ size_moved Native (λ n. c.args.jump) y.rule.target in
    let split : length c.args.out.now - c.size.result ≡ target_offset Native y.rule.matches = omega (arith, size, y.size) in
    let head_length : length c.put_head.new.out ≡ length c.args.out.now = c.put_head.auto.out in
    let part : ℕ = (length c.args.out.now - c.size.result) - 112 in
    let part_is : part ≡ matches_size Native y.rule.matches = omega (arith, split) in
    let room : part ≤ length (drop 112 c.put_head.new.out) = omega (arith, length-drop 112 c.put_head.new.out, head_length, y.size, part_is) in
    let part_len : length (take part (drop 112 c.put_head.new.out)) ≡ part = length-take-le part (drop 112 c.put_head.new.out) room in
    let matches : c.put_matches_of.new.out ≡ native_matches y.rule.matches =
    sym (ok_is (native_matches y.rule.matches) c.put_matches_of.new.out
    (sym (ap (λ (r : Result (List RuleMatch) BlobCause). told_of native_matches r) y.parts.matches) ∙ c.put_matches_of.ensures)) in
    let matches_len : length c.put_matches_of.new.out ≡ part = c.put_matches_of.auto.out ∙ part_len in
    let ip : c.ip_of.result.now ≡ y.rule.ip = c.ip_of.ensures.ip ∙ y.parts.ip in
    let ip_len : length y.rule.ip ≡ 84 = ap (λ (ys : List ℕ). length ys) (sym y.parts.ip) ∙ length-take-le 84 c.args.bytes.now (omega (arith, y.parts.long)) in
    let packets : c.u64_at.result ≡ y.rule.packets = c.u64_at.ensures ∙ y.parts.packets in
    let bytes : c.u64_at-in-Ok.result ≡ y.rule.bytes = c.u64_at-in-Ok.ensures ∙ y.parts.bytes in
    let n : ℕ = length c.args.out.now in
    let at : ℕ = n - c.size.result in
    let rest : List ℕ = drop 112 c.args.out.now in
    let head : c.put_head.new.out ≡ head_of y.rule.ip at n y.rule.packets y.rule.bytes ++ rest =
    c.put_head.ensures ∙ head_regrouped c.ip_of.result.now at n c.u64_at.result c.u64_at-in-Ok.result rest
    ∙ ap (λ (ys : List ℕ). head_of ys at n c.u64_at.result c.u64_at-in-Ok.result ++ rest) ip
    ∙ ap (λ (x : ℕ). head_of y.rule.ip at n x c.u64_at-in-Ok.result ++ rest) packets
    ∙ ap (λ (x : ℕ). head_of y.rule.ip at n y.rule.packets x ++ rest) bytes in
    let target : c.put_target.new.out ≡ put (target_spelling Native (with_jump (λ x. c.args.jump) y.rule.target)) =
    c.put_target.ensures ∙ ap (λ (t : RuleTarget). put (target_spelling Native t)) placed in
    ap (λ (r : Result Rule BlobCause). told_of (native_rule c.args.jump) r) y.read
    ∙ ap (λ (ys : List ℕ). Ok ys) (sym (three_parts y.rule c.args.jump c.args.out.now c.put_head.new.out c.put_matches_of.new.out c.put_target.new.out at ip_len y.size split head matches matches_len target))
