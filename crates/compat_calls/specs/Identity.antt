-- The calls on the process itself.
use Rattle.std.specs.Prelude.{ℕ, ◌%◌, Ok, false, true, ⊤}
use Rattle.std.specs.Int.{w64, cast_unsigned}
use Rattle.kernel_values.specs.declared.identity.Credentials.{Credentials}
use Rattle.kernel_values.specs.declared.times.Usage.{Usage}
use Rattle.native_kernel.specs.declared.state.Kernel.{Kernel}
use Rattle.kernel_values.specs.declared.process_end.End.TheVariants as end
use Rattle.native_kernel.specs.Operations as native
use Rattle.abi_registers.specs.declared.arguments.Args.{Args}
use Rattle.abi_registers.specs.Values.{signed, word}
use Rattle.layout_laws.specs.Abis.{AbiRules}
use Rattle.time_layouts.specs.Usages as layouts
use Rattle.served_calls.specs.Calls.{Call, Memory, gives_word, ◌>>◌}
use Rattle.served_calls.specs.Shapes.{stores}

unfoldable pub getpid : AbiRules → Args → Memory → Kernel → Call Kernel Credentials
getpid abi args m k = record {
  operation = (Ok (native.credentials k), k);
  deliver = λ c. gives_word c.pid;
  keeps = false;
}

-- the low 8 bits of a code
abbrev pub exit_code : Args → ℕ
exit_code args = cast_unsigned w64 (signed args 0) % 256

unfoldable pub exit : AbiRules → Args → Memory → Kernel → Call Kernel ⊤
exit abi args m k = record {
  operation = (Ok tt, native.finish k (end.Exit (exit_code args)));
  deliver = λ _. gives_word 0;
  keeps = true;
}

unfoldable pub getuid32 : AbiRules → Args → Memory → Kernel → Call Kernel Credentials
getuid32 abi args m k = record {
  operation = (Ok (native.credentials k), k);
  deliver = λ c. gives_word c.uid;
  keeps = false;
}

unfoldable pub getgid32 : AbiRules → Args → Memory → Kernel → Call Kernel Credentials
getgid32 abi args m k = record {
  operation = (Ok (native.credentials k), k);
  deliver = λ c. gives_word c.gid;
  keeps = false;
}

unfoldable pub getrusage : AbiRules → Args → Memory → Kernel → Call Kernel Usage
getrusage abi args m k = record {
  operation = (native.usage k (signed args 0), k);
  deliver = λ used. stores layouts.usage abi (word args 1) (record { usage = used }) >> gives_word 0;
  keeps = false;
}
