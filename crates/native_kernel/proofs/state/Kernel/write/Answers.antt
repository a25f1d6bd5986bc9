use Rattle.std.proofs.Common.{◌≡◌, w64, FitsSigned, rules}
use Rattle.std.proofs.lemmas.Int.{to_z-of_z}
use Rattle.native_kernel.specs.Operations.{write}
use Rattle.native_kernel.proofs.Signalled.{marked_by}
use Rattle.native_kernel.proofs.state.Kernel.write.Goals as goal

pub returns-clause-gives : goal.returns-clause-gives
unfolding write
returns-clause-gives c =
    let fits : FitsSigned w64 c.args.fd = search rules in
    let same = to_z-of_z w64 c.args.fd fits in
    let given = rw (same, c.of_nanoseconds-now.ensures, c.real.ensures, c.credentials-own.ensures) at c.write-answer.ensures.gives in
    let signal = rw same at c.signal_broken_pipe.ensures in
    rw signal (marked_by c.args.fd c.args.self.now c.write-answer.result _ _ given)
