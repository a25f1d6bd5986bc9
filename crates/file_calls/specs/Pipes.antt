-- The calls on pipes alone.
use Rattle.std.specs.Prelude.{ℕ, ◌==◌, false, Result, Err, if◌then◌else◌}
use Rattle.kernel_values.specs.declared.errno.Errno.{Errno}
use Rattle.kernel_values.specs.declared.errno.Errno.TheVariants.{BadDescriptor, NotTerminal}
use Rattle.native_kernel.specs.declared.state.Kernel.{Kernel}
use Rattle.native_kernel.specs.Operations as native
use Rattle.abi_registers.specs.declared.arguments.Args.{Args}
use Rattle.abi_registers.specs.Values.{signed, word}
use Rattle.layout_laws.specs.Abis.{AbiRules}
use Rattle.file_layouts.specs.Descriptors.{descriptor_pair}
use Rattle.file_layouts.specs.Polls.{byte_count}
use Rattle.served_calls.specs.Calls.{Call, Memory, gives_word, ◌>>◌}
use Rattle.served_calls.specs.Shapes.{stores}

-- pipe(place): both descriptors, or EFAULT and no pipe
unfoldable pub pipe : AbiRules → Args → Memory → Kernel → Call Kernel (ℕ × ℕ)
pipe abi args m k = record {
  operation = native.pipe k 0;
  deliver = λ n. stores descriptor_pair abi (word args 0) (record { first = n.0; second = n.1 }) >> gives_word 0;
  keeps = false;
}

-- pipe2(place, flags)
unfoldable pub pipe2 : AbiRules → Args → Memory → Kernel → Call Kernel (ℕ × ℕ)
pipe2 abi args m k = record {
  operation = native.pipe k (word args 1);
  deliver = λ n. stores descriptor_pair abi (word args 0) (record { first = n.0; second = n.1 }) >> gives_word 0;
  keeps = false;
}

-- FIONREAD, 0x541b, asks how many bytes wait; every other command is ENOTTY, behind EBADF
abbrev pub bytes_asked : Args → Kernel → Result ℕ Errno
bytes_asked args k = if native.can_use k (signed args 0) false false then
    (if word args 1 == 0x541b then native.waiting_bytes k (signed args 0) else Err NotTerminal) else Err BadDescriptor

-- ioctl(descriptor, command, place)
unfoldable pub ioctl : AbiRules → Args → Memory → Kernel → Call Kernel ℕ
ioctl abi args m k = record {
  operation = (bytes_asked args k, k);
  deliver = λ n. stores byte_count abi (word args 2) (record { count = n }) >> gives_word 0;
  keeps = false;
}
