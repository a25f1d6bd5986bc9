-- The calls on descriptors.
use Rattle.std.specs.Prelude.{ℕ, negsuc, ⊤, true, false}
use Rattle.native_kernel.specs.declared.state.Kernel.{Kernel}
use Rattle.native_kernel.specs.Operations as native
use Rattle.abi_registers.specs.declared.arguments.Args.{Args}
use Rattle.abi_registers.specs.Values.{signed, word}
use Rattle.layout_laws.specs.Abis.{AbiRules}
use Rattle.served_calls.specs.Calls.{Call, Memory, Served, gives_word, served}
use Rattle.file_calls.specs.Commands.{asked, command_64_of, command_of}
use Rattle.file_calls.specs.Locks as locks
use Rattle.file_calls.specs.declared.commands.Command.{Command}
use Rattle.file_calls.specs.declared.commands.Command.TheVariants as command
use Rattle.file_calls.specs.declared.commands.DescriptorCommand.{DescriptorCommand}
use Rattle.file_calls.specs.declared.commands.LockCommand.TheVariants as commands

-- close(descriptor)
unfoldable pub close : AbiRules → Args → Memory → Kernel → Call Kernel ⊤
close abi args m k = record {
  operation = native.close k (signed args 0);
  deliver = λ _. gives_word 0;
  keeps = true;
}

-- dup(descriptor): from no least number on
unfoldable pub dup : AbiRules → Args → Memory → Kernel → Call Kernel ℕ
dup abi args m k = record {
  operation = native.duplicate k (signed args 0) (negsuc 0) false;
  deliver = gives_word;
  keeps = true;
}

-- dup2(descriptor, new)
unfoldable pub dup2 : AbiRules → Args → Memory → Kernel → Call Kernel ℕ
dup2 abi args m k = record {
  operation = native.duplicate_to k (signed args 0) (signed args 1) 0 false;
  deliver = gives_word;
  keeps = true;
}

-- dup3(descriptor, new, flags)
unfoldable pub dup3 : AbiRules → Args → Memory → Kernel → Call Kernel ℕ
dup3 abi args m k = record {
  operation = native.duplicate_to k (signed args 0) (signed args 1) (word args 2) true;
  deliver = gives_word;
  keeps = true;
}

-- a command of fcntl on a descriptor
unfoldable pub control : DescriptorCommand → AbiRules → Args → Memory → Kernel → Call Kernel ℕ
control c abi args m k = record {
  operation = asked abi.kind k (signed args 0) c (word args 2);
  deliver = gives_word;
  keeps = true;
}

-- each command; the lock of a command on locks stands at its argument
unfoldable pub commanded : Command → AbiRules → Args → Memory → Kernel → Served Kernel
commanded (command.Descriptor c) abi args m k = served (control c abi args) m k
commanded (command.Lock commands.Find) abi args m k = served (locks.find_lock abi args) m k
commanded (command.Lock commands.Set) abi args m k = served (locks.set_lock abi args) m k
commanded (command.Lock commands.Find64) abi args m k = served (locks.find_lock_64 abi args) m k
commanded (command.Lock commands.Set64) abi args m k = served (locks.set_lock_64 abi args) m k

-- fcntl(descriptor, command, argument)
unfoldable pub fcntl : AbiRules → Args → Memory → Kernel → Served Kernel
fcntl abi args m k = commanded (command_of (word args 1)) abi args m k

-- fcntl64(descriptor, command, argument)
unfoldable pub fcntl64 : AbiRules → Args → Memory → Kernel → Served Kernel
fcntl64 abi args m k = commanded (command_64_of (word args 1)) abi args m k
