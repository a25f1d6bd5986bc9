-- What a call answers to the bytes of rules.
use Rattle.kernel_values.specs.declared.errno.Errno.{Errno}
use Rattle.kernel_values.specs.declared.errno.Errno.TheVariants as errno
use Rattle.kernel_values.specs.declared.rules.BlobCause.{BlobCause}
use Rattle.kernel_values.specs.declared.rules.BlobCause.TheVariants as cause

abbrev pub blob_errno : BlobCause → Errno
blob_errno cause.Short = errno.InvalidArgument
blob_errno cause.Offsets = errno.InvalidArgument
blob_errno cause.Flags = errno.InvalidArgument
blob_errno cause.MatchShape = errno.InvalidArgument
blob_errno cause.MatchUnknown = errno.NoEntry
blob_errno cause.Protocol = errno.InvalidArgument
blob_errno cause.TargetShape = errno.InvalidArgument
blob_errno cause.TargetUnknown = errno.NoEntry
blob_errno cause.Verdict = errno.InvalidArgument
blob_errno cause.Count = errno.InvalidArgument
blob_errno cause.Jump = errno.InvalidArgument
blob_errno cause.Hooks = errno.InvalidArgument
blob_errno cause.FallOff = errno.InvalidArgument
blob_errno cause.Loop = errno.Loop
