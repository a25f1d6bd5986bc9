-- The call that sets the times of a file. A path is read first: EFAULT, then ENAMETOOLONG.
use Rattle.std.specs.Prelude.{⊤, false, option_map}
use Rattle.native_kernel.specs.declared.state.Kernel.{Kernel}
use Rattle.native_kernel.specs.Operations as native
use Rattle.abi_registers.specs.declared.arguments.Args.{Args}
use Rattle.abi_registers.specs.Values.{signed, word}
use Rattle.layout_laws.specs.Abis.{AbiRules}
use Rattle.time_layouts.specs.Times.{file_times_32}
use Rattle.time_layouts.specs.declared.times.FileTimes32.{FileTimes32}
use Rattle.served_calls.specs.Calls.{Call, Memory, gives_word, on_fetched}
use Rattle.served_calls.specs.Bytes.{optional_path_at}
use Rattle.served_calls.specs.Shapes.{optional_shape_at}

-- utimensat(directory, path, times, flags): no path means the descriptor, and no times now
unfoldable pub utimensat : AbiRules → Args → Memory → Kernel → Call Kernel ⊤
utimensat abi args m k = record {
  operation = on_fetched k (optional_path_at m (word args 1)) (λ path. on_fetched k (optional_shape_at file_times_32 abi m (word args 2)) (λ times.
      native.set_times k (signed args 0) path (option_map (λ (t : FileTimes32). t.times) times) (signed args 3)));
  deliver = λ _. gives_word 0;
  keeps = false;
}
