-- What an answer posts.
use Rattle.std.proofs.Common.{◌≡◌, ℕ, ℤ, Result, Ok, Err, refl}
use Rattle.kernel_values.specs.Outcome.{Gives, marked}
use Rattle.kernel_values.specs.declared.errno.Errno.{Errno}
use Rattle.kernel_values.specs.declared.errno.KernelFault.{KernelFault}
use Rattle.kernel_values.specs.declared.errno.KernelFault.TheVariants as fault
use Rattle.file_store.specs.declared.state.Files.{Files}
use Rattle.native_kernel.specs.Operations.{signalled_at, signalled_by}
use Rattle.native_kernel.specs.State.{on_files}
use Rattle.native_kernel.specs.declared.state.Kernel.{Kernel}

-- an operation on files, and then the signal of its answer
pub marked_by : (fd : ℤ) (k : Kernel) (answer : Result ℕ KernelFault) (after : Files) (defined : Result ℕ Errno × Files)
    → Gives (λ (n : ℕ). n) answer after defined
    → Gives (λ (n : ℕ). n) answer (signalled_by fd answer (record k { files = after })) (marked (signalled_at fd) (on_files k defined))
marked_by fd k (Ok n) after defined given = rw given refl
marked_by fd k (Err (fault.Errno e)) after defined given = rw given refl
marked_by fd k (Err fault.OutOfMemory) after defined given = tt
