-- The ranges that the grammar keeps.
use Rattle.std.proofs.Common.{◌≡◌, ℕ, ◌+◌, ◌<◌, ◌^◌, ◌==◌, ◌&&◌, nat_le, nat_lt, pos, negsuc, ◌%◌, Bool, true, false, List, [], length, cond, Option, Some, None, ok_or, Ok, Err, refl, arith, if◌then◌else◌}
use Rattle.std.proofs.lemmas.Bool.{ltb-true, le-leb}
use Rattle.std.specs.Option.{unwrap_or}
use Rattle.kernel_values.specs.declared.abi.AbiKind.{AbiKind}
use Rattle.script_reader.specs.declared.fault.LineCause.TheVariants as causes
use Rattle.script_reader.specs.declared.grammar.Keyword.{Keyword}
use Rattle.script_reader.specs.declared.grammar.Keyword.TheVariants as keywords
use Rattle.script_reader.specs.Fields.{◌>>=◌, after_field, clock, count, data_of, fields_in, first_field, five_fields, four_fields, inode_of, number, path_of, size_of, three_fields, two_fields, word}
use Rattle.script_reader.specs.Grammar.{Line, Header, Clock, Who, Usage, Restorer, Page, Dir, File, Bytes, Lock, Poke, Call, Advance, Post, Show, advance_line, bytes_line, call_line, clock_line, dir_line, field_count, fields_of, file_line, holder_of, lock_kind_of, keyword_of, line_about, lock_line, lock_of, page_line, page_of, pid_of, poke_line, post_line, privilege_of, queue_line, read_about, read_line, registers_in, restorer_line, rights_of, signal_of, usage_line, who_line}

-- a file has at most 2^40 bytes, and no lock reaches past byte 2^63 - 1
abbrev pub is_fit : Line → Bool
is_fit (Header kind) = true
is_fit (Clock real monotonic) = true
is_fit (Who owner privileged) = true
is_fit (Usage usage) = true
is_fit (Restorer address) = true
is_fit (Page at writable bytes) = true
is_fit (Dir path inode) = true
is_fit (File path inode size) = nat_le size (2 ^ 40)
is_fit (Bytes path offset bytes) = true
is_fit (Lock path write start count pid) = nat_le (start + count) (2 ^ 63)
is_fit (Poke at bytes) = true
is_fit (Call registers) = true
is_fit (Advance nanos) = true
is_fit (Post info) = true
is_fit Show = true

unfoldable all_fit : Option Line → Bool
all_fit None = true
all_fit (Some line) = is_fit line

fit : (line : Line) → is_fit line ≡ true → all_fit (Some line) ≡ true
unfolding all_fit
fit line h = h

-- a step that gives a value goes on with it
behind : {A : Type 0} (o : Option A) (f : A → Option Line) → ((x : A) → all_fit (f x) ≡ true) → all_fit (o >>= f) ≡ true
unfolding all_fit
behind None f h = refl
behind (Some x) f h = h x

behind_value : {A : Type 0} (o : Option A) (f : A → Option Line) → ((x : A) → o ≡ Some x → all_fit (f x) ≡ true) → all_fit (o >>= f) ≡ true
unfolding all_fit
behind_value None f h = refl
behind_value (Some x) f h = h x refl

test_kept : (b : Bool) (line : Line) → (b ≡ true → is_fit line ≡ true) → all_fit (cond b (Some line) None) ≡ true
unfolding all_fit
test_kept true line h = h refl
test_kept false line h = refl

below_case : (o : Option ℕ) (limit n : ℕ) → (o >>= λ (m : ℕ). if nat_lt m limit then Some m else None) ≡ Some n → nat_lt n limit ≡ true
below_case None limit n h = cc
below_case (Some m) limit n h = by (nat_lt m limit) refl h
  where
    by : (b : Bool) → nat_lt m limit ≡ b → cond b (Some m) None ≡ Some n → nat_lt n limit ≡ true
    by true e h = let same : m ≡ n = cc in rw (← same) e
    by false e h = cc

size_fits : (text path : List ℕ) (inode size : ℕ) → size_of text ≡ Some size → all_fit (Some (File path inode size)) ≡ true
size_fits text path inode size told =
    let few : size < 2 ^ 40 + 1 = ltb-true size (2 ^ 40 + 1) (below_case (number text) (2 ^ 40 + 1) size told) in
    fit (File path inode size) (le-leb size (2 ^ 40) (omega (arith, few)))

clock_fits : (rest : List ℕ) → all_fit (clock_line rest) ≡ true
unfolding clock_line
clock_fits rest =
    behind (two_fields rest) (λ f. clock f.0 >>= λ real. clock f.1 >>= λ monotonic. Some (Clock real monotonic))
    (λ f. behind (clock f.0) (λ real. clock f.1 >>= λ monotonic. Some (Clock real monotonic))
    (λ real. behind (clock f.1) (λ monotonic. Some (Clock real monotonic))
    (λ monotonic. fit (Clock real monotonic) refl)))

who_fits : (rest : List ℕ) → all_fit (who_line rest) ≡ true
unfolding who_line
who_fits rest =
    behind (four_fields rest) (λ f. pid_of f.0 >>= λ pid. word f.1 >>= λ uid. word f.2 >>= λ gid. privilege_of f.3 >>= λ privileged. Some (Who (record { pid = pid; uid = uid; gid = gid }) privileged))
    (λ f. behind (pid_of f.0) (λ pid. word f.1 >>= λ uid. word f.2 >>= λ gid. privilege_of f.3 >>= λ privileged. Some (Who (record { pid = pid; uid = uid; gid = gid }) privileged))
    (λ pid. behind (word f.1) (λ uid. word f.2 >>= λ gid. privilege_of f.3 >>= λ privileged. Some (Who (record { pid = pid; uid = uid; gid = gid }) privileged))
    (λ uid. behind (word f.2) (λ gid. privilege_of f.3 >>= λ privileged. Some (Who (record { pid = pid; uid = uid; gid = gid }) privileged))
    (λ gid. behind (privilege_of f.3) (λ privileged. Some (Who (record { pid = pid; uid = uid; gid = gid }) privileged))
    (λ privileged. fit (Who (record { pid = pid; uid = uid; gid = gid }) privileged) refl)))))

usage_fits : (rest : List ℕ) → all_fit (usage_line rest) ≡ true
unfolding usage_line
usage_fits rest =
    behind (fields_in count 18 (Some rest)) (λ words. Some (Usage (record { words = words })))
    (λ words. fit (Usage (record { words = words })) refl)

restorer_fits : (rest : List ℕ) → all_fit (restorer_line rest) ≡ true
unfolding restorer_line
restorer_fits rest =
    behind (word rest) (λ address. Some (Restorer address))
    (λ address. fit (Restorer address) refl)

page_fits : (rest : List ℕ) → all_fit (page_line rest) ≡ true
unfolding page_line
page_fits rest =
    behind (three_fields rest) (λ f. word f.0 >>= λ at. rights_of f.1 >>= λ writable. data_of f.2 >>= λ bytes. page_of at writable bytes)
    (λ f. behind (word f.0) (λ at. rights_of f.1 >>= λ writable. data_of f.2 >>= λ bytes. page_of at writable bytes)
    (λ at. behind (rights_of f.1) (λ writable. data_of f.2 >>= λ bytes. page_of at writable bytes)
    (λ writable. behind (data_of f.2) (λ bytes. page_of at writable bytes)
    (λ bytes. test_kept ((at % 4096 == 0) && nat_le (length bytes) 4096) (Page at writable bytes) (λ h. refl)))))

dir_fits : (rest : List ℕ) → all_fit (dir_line rest) ≡ true
unfolding dir_line
dir_fits rest =
    behind (two_fields rest) (λ f. path_of f.0 >>= λ path. inode_of f.1 >>= λ inode. Some (Dir path inode))
    (λ f. behind (path_of f.0) (λ path. inode_of f.1 >>= λ inode. Some (Dir path inode))
    (λ path. behind (inode_of f.1) (λ inode. Some (Dir path inode))
    (λ inode. fit (Dir path inode) refl)))

bytes_fits : (rest : List ℕ) → all_fit (bytes_line rest) ≡ true
unfolding bytes_line
bytes_fits rest =
    behind (three_fields rest) (λ f. path_of f.0 >>= λ path. number f.1 >>= λ offset. data_of f.2 >>= λ bytes. Some (Bytes path offset bytes))
    (λ f. behind (path_of f.0) (λ path. number f.1 >>= λ offset. data_of f.2 >>= λ bytes. Some (Bytes path offset bytes))
    (λ path. behind (number f.1) (λ offset. data_of f.2 >>= λ bytes. Some (Bytes path offset bytes))
    (λ offset. behind (data_of f.2) (λ bytes. Some (Bytes path offset bytes))
    (λ bytes. fit (Bytes path offset bytes) refl))))

lock_fits : (rest : List ℕ) → all_fit (lock_line rest) ≡ true
unfolding lock_line
lock_fits rest =
    behind (five_fields rest) (λ f. path_of f.0 >>= λ path. lock_kind_of f.1 >>= λ write. number f.2 >>= λ start. number f.3 >>= λ count. holder_of f.4 >>= λ pid. lock_of path write start count pid)
    (λ f. behind (path_of f.0) (λ path. lock_kind_of f.1 >>= λ write. number f.2 >>= λ start. number f.3 >>= λ count. holder_of f.4 >>= λ pid. lock_of path write start count pid)
    (λ path. behind (lock_kind_of f.1) (λ write. number f.2 >>= λ start. number f.3 >>= λ count. holder_of f.4 >>= λ pid. lock_of path write start count pid)
    (λ write. behind (number f.2) (λ start. number f.3 >>= λ count. holder_of f.4 >>= λ pid. lock_of path write start count pid)
    (λ start. behind (number f.3) (λ count. holder_of f.4 >>= λ pid. lock_of path write start count pid)
    (λ count. behind (holder_of f.4) (λ pid. lock_of path write start count pid)
    (λ pid. test_kept (nat_le (start + count) (2 ^ 63)) (Lock path write start count pid) (λ h. h)))))))

poke_fits : (rest : List ℕ) → all_fit (poke_line rest) ≡ true
unfolding poke_line
poke_fits rest =
    behind (two_fields rest) (λ f. word f.0 >>= λ at. data_of f.1 >>= λ bytes. Some (Poke at bytes))
    (λ f. behind (word f.0) (λ at. data_of f.1 >>= λ bytes. Some (Poke at bytes))
    (λ at. behind (data_of f.1) (λ bytes. Some (Poke at bytes))
    (λ bytes. fit (Poke at bytes) refl)))

call_fits : (kind : AbiKind) (rest : List ℕ) → all_fit (call_line kind rest) ≡ true
unfolding call_line
call_fits kind rest =
    behind (registers_in kind rest) (λ registers. Some (Call registers))
    (λ registers. fit (Call registers) refl)

advance_fits : (rest : List ℕ) → all_fit (advance_line rest) ≡ true
unfolding advance_line
advance_fits rest =
    behind (clock rest) (λ nanos. Some (Advance nanos))
    (λ nanos. fit (Advance nanos) refl)

post_fits : (rest : List ℕ) → all_fit (post_line rest) ≡ true
unfolding post_line
post_fits rest =
    behind (three_fields rest) (λ f. signal_of f.0 >>= λ signal. word f.1 >>= λ pid. word f.2 >>= λ uid. Some (Post (record { signal = signal; errno = pos 0; code = pos 0; pid = pid; uid = uid; value = 0 })))
    (λ f. behind (signal_of f.0) (λ signal. word f.1 >>= λ pid. word f.2 >>= λ uid. Some (Post (record { signal = signal; errno = pos 0; code = pos 0; pid = pid; uid = uid; value = 0 })))
    (λ signal. behind (word f.1) (λ pid. word f.2 >>= λ uid. Some (Post (record { signal = signal; errno = pos 0; code = pos 0; pid = pid; uid = uid; value = 0 })))
    (λ pid. behind (word f.2) (λ uid. Some (Post (record { signal = signal; errno = pos 0; code = pos 0; pid = pid; uid = uid; value = 0 })))
    (λ uid. fit (Post (record { signal = signal; errno = pos 0; code = pos 0; pid = pid; uid = uid; value = 0 })) refl))))

queue_fits : (rest : List ℕ) → all_fit (queue_line rest) ≡ true
unfolding queue_line
queue_fits rest =
    behind (four_fields rest) (λ f. signal_of f.0 >>= λ signal. word f.1 >>= λ pid. word f.2 >>= λ uid. word f.3 >>= λ value. Some (Post (record { signal = signal; errno = pos 0; code = negsuc 0; pid = pid; uid = uid; value = value })))
    (λ f. behind (signal_of f.0) (λ signal. word f.1 >>= λ pid. word f.2 >>= λ uid. word f.3 >>= λ value. Some (Post (record { signal = signal; errno = pos 0; code = negsuc 0; pid = pid; uid = uid; value = value })))
    (λ signal. behind (word f.1) (λ pid. word f.2 >>= λ uid. word f.3 >>= λ value. Some (Post (record { signal = signal; errno = pos 0; code = negsuc 0; pid = pid; uid = uid; value = value })))
    (λ pid. behind (word f.2) (λ uid. word f.3 >>= λ value. Some (Post (record { signal = signal; errno = pos 0; code = negsuc 0; pid = pid; uid = uid; value = value })))
    (λ uid. behind (word f.3) (λ value. Some (Post (record { signal = signal; errno = pos 0; code = negsuc 0; pid = pid; uid = uid; value = value })))
    (λ value. fit (Post (record { signal = signal; errno = pos 0; code = negsuc 0; pid = pid; uid = uid; value = value })) refl)))))

file_fits : (rest : List ℕ) → all_fit (file_line rest) ≡ true
unfolding file_line
file_fits rest =
    behind (three_fields rest) (λ f. path_of f.0 >>= λ path. inode_of f.1 >>= λ inode. size_of f.2 >>= λ size. Some (File path inode size))
    (λ f. behind (path_of f.0) (λ path. inode_of f.1 >>= λ inode. size_of f.2 >>= λ size. Some (File path inode size))
    (λ path. behind (inode_of f.1) (λ inode. size_of f.2 >>= λ size. Some (File path inode size))
    (λ inode. behind_value (size_of f.2) (λ size. Some (File path inode size)) (λ size told. size_fits f.2 path inode size told))))

about_fits : (kind : AbiKind) (keyword : Keyword) (rest : List ℕ) → all_fit (line_about kind keyword rest) ≡ true
unfolding line_about
about_fits kind keywords.Clock rest = clock_fits rest
about_fits kind keywords.Who rest = who_fits rest
about_fits kind keywords.Usage rest = usage_fits rest
about_fits kind keywords.Restorer rest = restorer_fits rest
about_fits kind keywords.Page rest = page_fits rest
about_fits kind keywords.Dir rest = dir_fits rest
about_fits kind keywords.File rest = file_fits rest
about_fits kind keywords.Bytes rest = bytes_fits rest
about_fits kind keywords.Lock rest = lock_fits rest
about_fits kind keywords.Poke rest = poke_fits rest
about_fits kind keywords.Call rest = call_fits kind rest
about_fits kind keywords.Advance rest = advance_fits rest
about_fits kind keywords.Post rest = post_fits rest
about_fits kind keywords.Queue rest = queue_fits rest
about_fits kind keywords.Show rest = fit Show refl

told_case : (o : Option Line) (b : Bool) (line : Line) → all_fit o ≡ true → cond b (ok_or o causes.Field) (Err causes.Count) ≡ Ok line → is_fit line ≡ true
unfolding all_fit
told_case None true line fits h = cc
told_case (Some l) true line fits h = let same : l ≡ line = cc in rw (← same) fits
told_case o false line fits h = cc

read_case : (kind : AbiKind) (o : Option Keyword) (text : List ℕ) (line : Line) → read_about kind o text ≡ Ok line → is_fit line ≡ true
read_case kind None text line h = cc
read_case kind (Some keyword) text line h =
    let rest : List ℕ = unwrap_or (after_field text) [] in
    told_case (line_about kind keyword rest) (field_count text == fields_of kind keyword) line (about_fits kind keyword rest) h

-- each line that is read keeps them
pub line_fits : (kind : AbiKind) (text : List ℕ) (line : Line) → read_line kind text ≡ Ok line → is_fit line ≡ true
unfolding read_line
line_fits kind text line h = read_case kind (keyword_of (first_field text)) text line h
