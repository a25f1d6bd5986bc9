use Rattle.std.proofs.Common.{◌≡◌, w64, FitsSigned, rules}
use Rattle.std.proofs.lemmas.Int.{to_z-of_z}
use Rattle.native_kernel.specs.Operations.{send_file}
use Rattle.native_kernel.proofs.Signalled.{marked_by}
use Rattle.native_kernel.proofs.state.Kernel.send_file.Goals as goal

pub returns-clause-gives : goal.returns-clause-gives
unfolding send_file
returns-clause-gives c =
    let fits : FitsSigned w64 c.args.target = search rules in
    let same = to_z-of_z w64 c.args.target fits in
    let fits_source : FitsSigned w64 c.args.source = search rules in
    let same_source = to_z-of_z w64 c.args.source fits_source in
    let given = rw (same, same_source, c.of_nanoseconds-now.ensures, c.real.ensures, c.credentials-own.ensures) at c.send_file-answer.ensures.gives in
    let signal = rw same at c.signal_broken_pipe.ensures in
    rw signal (marked_by c.args.target c.args.self.now c.send_file-answer.result _ _ given)
