-- The lines of descriptors, of open files that are no Unix sockets, and of pipes.
use Rattle.std.specs.Prelude.{ℕ, List, [], ◌∷◌, ◌++◌, codes}
use Rattle.kernel_values.specs.OpenFlags.{to_word}
use Rattle.kernel_values.specs.declared.abi.AbiKind.{AbiKind}
use Rattle.kernel_values.specs.declared.items.DescriptorItem.{DescriptorItem}
use Rattle.kernel_values.specs.declared.items.OpenFileItem.{OpenFileItem}
use Rattle.kernel_values.specs.declared.items.OpenKind.{OpenKind}
use Rattle.kernel_values.specs.declared.items.OpenKind.TheVariants as kinds
use Rattle.kernel_values.specs.declared.items.PipeItem.{PipeItem}
use Rattle.report_text.specs.Fields.{bytes_text, mark, numbers_line, numbers_text}

-- fd NUMBER SERIAL CLOEXEC
unfoldable pub fd_text : DescriptorItem → List ℕ
fd_text d = numbers_line (codes "fd") (d.number ∷ d.serial ∷ mark d.cloexec ∷ [])

unfoldable pub kind_word : OpenKind → List ℕ
kind_word kinds.File = codes " file"
kind_word kinds.Directory = codes " dir"
kind_word kinds.PipeRead = codes " pr"
kind_word kinds.PipeWrite = codes " pw"
kind_word kinds.Stream = codes " stream"
kind_word kinds.Datagram = codes " dgram"
kind_word kinds.RuleSocket = codes " rule"

-- open SERIAL KIND FLAGS POSITION INO, with the flags as F_GETFL tells them to a process of this kind
unfoldable pub open_text : AbiKind → OpenFileItem → List ℕ
open_text abi o =
    codes "open" ++ numbers_text (o.serial ∷ []) ++ kind_word o.kind ++ numbers_text (to_word abi o.flags ∷ o.position ∷ o.inode ∷ []) ++ 10 ∷ []

-- pipe INO BYTES
unfoldable pub pipe_text : PipeItem → List ℕ
pipe_text p = codes "pipe" ++ numbers_text (p.inode ∷ []) ++ bytes_text p.bytes ++ 10 ∷ []
