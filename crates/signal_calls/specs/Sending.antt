-- The calls that send a signal to a process.
use Rattle.std.specs.Prelude.{false, ⊤}
use Rattle.native_kernel.specs.declared.state.Kernel.{Kernel}
use Rattle.native_kernel.specs.Operations as native
use Rattle.abi_registers.specs.declared.arguments.Args.{Args}
use Rattle.abi_registers.specs.Values.{signed, word}
use Rattle.layout_laws.specs.Abis.{AbiRules}
use Rattle.signal_layouts.specs.Infos.{info_32}
use Rattle.served_calls.specs.Calls.{Call, Memory, gives_word, on_fetched}
use Rattle.served_calls.specs.Shapes.{shape_at}

-- kill(pid, signal)
unfoldable pub kill : AbiRules → Args → Memory → Kernel → Call Kernel ⊤
kill abi args m k = record {
  operation = native.kill k (signed args 0) (signed args 1);
  deliver = λ _. gives_word 0;
  keeps = false;
}

-- rt_sigqueueinfo(pid, signal, info): EFAULT where the information can't be read comes before all else
unfoldable pub rt_sigqueueinfo : AbiRules → Args → Memory → Kernel → Call Kernel ⊤
rt_sigqueueinfo abi args m k = record {
  operation = on_fetched k (shape_at info_32 abi m (word args 2)) (λ x. native.queue k (signed args 0) (signed args 1) x.info);
  deliver = λ _. gives_word 0;
  keeps = false;
}
