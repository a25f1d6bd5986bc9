-- The choice among the calls on files: a line for each tells what serves it, and whether memory may be wanting for it.
use Rattle.std.specs.Prelude.{ℕ, true, false}
use Rattle.native_kernel.specs.declared.state.Kernel.{Kernel}
use Rattle.abi_registers.specs.declared.arguments.Args.{Args}
use Rattle.abi_registers.specs.Values.{word}
use Rattle.layout_laws.specs.Abis.{AbiRules}
use Rattle.call_tables.specs.declared.operation.FileOperation.{FileOperation}
use Rattle.call_tables.specs.declared.operation.FileOperation.TheVariants.{Paths, Names, Descriptors, Pipes, Transfers, Vectors, Sending, Listings, Status, Retiming, Lengths}
use Rattle.call_tables.specs.declared.operation.PathOperation.{PathOperation}
use Rattle.call_tables.specs.declared.operation.PathOperation.TheVariants.{Chdir, Getcwd, Open, Openat}
use Rattle.call_tables.specs.declared.operation.NameOperation.{NameOperation}
use Rattle.call_tables.specs.declared.operation.NameOperation.TheVariants.{Mkdir, Mkdirat, Rename, Rmdir, Unlink, Unlinkat}
use Rattle.call_tables.specs.declared.operation.DescriptorOperation.{DescriptorOperation}
use Rattle.call_tables.specs.declared.operation.DescriptorOperation.TheVariants.{Close, Dup, Dup2, Dup3, Fcntl, Fcntl64}
use Rattle.call_tables.specs.declared.operation.PipeOperation.{PipeOperation}
use Rattle.call_tables.specs.declared.operation.PipeOperation.TheVariants.{Ioctl, Pipe, Pipe2}
use Rattle.call_tables.specs.declared.operation.TransferOperation.{TransferOperation}
use Rattle.call_tables.specs.declared.operation.TransferOperation.TheVariants.{Llseek, Lseek, Pread64, Pwrite64, Read, Write}
use Rattle.call_tables.specs.declared.operation.VectorOperation.{VectorOperation}
use Rattle.call_tables.specs.declared.operation.VectorOperation.TheVariants.{Preadv, Pwritev, Readv, Writev}
use Rattle.call_tables.specs.declared.operation.SendingOperation.{SendingOperation}
use Rattle.call_tables.specs.declared.operation.SendingOperation.TheVariants.{Sendfile, Sendfile64}
use Rattle.call_tables.specs.declared.operation.ListingOperation.{ListingOperation}
use Rattle.call_tables.specs.declared.operation.ListingOperation.TheVariants.{Getdents, Getdents64}
use Rattle.call_tables.specs.declared.operation.StatusOperation.{StatusOperation}
use Rattle.call_tables.specs.declared.operation.StatusOperation.TheVariants.{Fstat, Fstat64, Fstatat64, Stat, Stat64}
use Rattle.call_tables.specs.declared.operation.RetimingOperation.{RetimingOperation}
use Rattle.call_tables.specs.declared.operation.RetimingOperation.TheVariants.{Utimensat}
use Rattle.call_tables.specs.declared.operation.LengthOperation.{LengthOperation}
use Rattle.call_tables.specs.declared.operation.LengthOperation.TheVariants.{Fallocate, Ftruncate, Ftruncate64, Truncate, Truncate64}
use Rattle.open_files.specs.Transfers.{moves_bytes}
use Rattle.open_files.specs.declared.state.Place.{Place}
use Rattle.open_files.specs.declared.state.Place.TheVariants.{Current}
use Rattle.served_calls.specs.Calls.{Memory, Service, served, spare, taking, taking_if}
use Rattle.file_calls.specs.Commands.{command_64_of, command_of, command_takes_memory}
use Rattle.file_calls.specs.Descriptors as descriptors
use Rattle.file_calls.specs.Lengths as lengths
use Rattle.file_calls.specs.Listings as listings
use Rattle.file_calls.specs.Names as names
use Rattle.file_calls.specs.Paths as paths
use Rattle.file_calls.specs.Pipes as pipes
use Rattle.file_calls.specs.Retiming as retiming
use Rattle.file_calls.specs.Sending as sending
use Rattle.file_calls.specs.Status as status
use Rattle.file_calls.specs.Transfers as transfers
use Rattle.file_calls.specs.VectorFetch.{vector_need}
use Rattle.file_calls.specs.Vectors as vectors

unfoldable pub path_service : PathOperation → AbiRules → Args → Memory → Kernel → Service Kernel
path_service Chdir abi args m k = spare (served (paths.chdir abi args) m k)
path_service Getcwd abi args m k = taking (served (paths.getcwd abi args) m k)
path_service Open abi args m k = taking (served (paths.open_path abi args) m k)
path_service Openat abi args m k = taking (served (paths.open_path_at abi args) m k)

unfoldable pub name_service : NameOperation → AbiRules → Args → Memory → Kernel → Service Kernel
name_service Mkdir abi args m k = taking (served (names.mkdir abi args) m k)
name_service Mkdirat abi args m k = taking (served (names.mkdirat abi args) m k)
name_service Rename abi args m k = taking (served (names.rename abi args) m k)
name_service Rmdir abi args m k = spare (served (names.rmdir abi args) m k)
name_service Unlink abi args m k = spare (served (names.unlink abi args) m k)
name_service Unlinkat abi args m k = spare (served (names.unlinkat abi args) m k)

unfoldable pub descriptor_service : DescriptorOperation → AbiRules → Args → Memory → Kernel → Service Kernel
descriptor_service Close abi args m k = spare (served (descriptors.close abi args) m k)
descriptor_service Dup abi args m k = taking (served (descriptors.dup abi args) m k)
descriptor_service Dup2 abi args m k = taking (served (descriptors.dup2 abi args) m k)
descriptor_service Dup3 abi args m k = taking (served (descriptors.dup3 abi args) m k)
descriptor_service Fcntl abi args m k = taking_if (command_takes_memory (command_of (word args 1))) (descriptors.fcntl abi args m k)
descriptor_service Fcntl64 abi args m k = taking_if (command_takes_memory (command_64_of (word args 1))) (descriptors.fcntl64 abi args m k)

unfoldable pub pipe_service : PipeOperation → AbiRules → Args → Memory → Kernel → Service Kernel
pipe_service Ioctl abi args m k = spare (served (pipes.ioctl abi args) m k)
pipe_service Pipe abi args m k = taking (served (pipes.pipe abi args) m k)
pipe_service Pipe2 abi args m k = taking (served (pipes.pipe2 abi args) m k)

unfoldable pub transfer_service : TransferOperation → AbiRules → Args → Memory → Kernel → Service Kernel
transfer_service Llseek abi args m k = spare (served (transfers.llseek abi args) m k)
transfer_service Lseek abi args m k = spare (served (transfers.lseek abi args) m k)
transfer_service Pread64 abi args m k = taking_if (moves_bytes (transfers.pread64 abi args m k).operation.0) (served (transfers.pread64 abi args) m k)
transfer_service Pwrite64 abi args m k = taking (served (transfers.pwrite64 abi args) m k)
transfer_service Read abi args m k = taking_if (moves_bytes (transfers.read abi args m k).operation.0) (served (transfers.read abi args) m k)
transfer_service Write abi args m k = taking (served (transfers.write abi args) m k)

abbrev pub reads_vector : Place → AbiRules → Args → Memory → Kernel → Service Kernel
reads_vector place abi args m k = taking_if (moves_bytes (vectors.read_vector place abi args m k).operation.0) (served (vectors.read_vector place abi args) m k)

unfoldable pub vector_service : VectorOperation → AbiRules → Args → Memory → Kernel → Service Kernel
vector_service Preadv abi args m k = reads_vector (vectors.offset_place args) abi args m k
vector_service Pwritev abi args m k = taking (served (vectors.write_vector (vectors.offset_place args) abi args) m k)
vector_service Readv abi args m k = reads_vector Current abi args m k
vector_service Writev abi args m k = taking (served (vectors.write_vector Current abi args) m k)

unfoldable pub sending_service : SendingOperation → AbiRules → Args → Memory → Kernel → Service Kernel
sending_service Sendfile abi args m k = taking (served (sending.send_file true abi args) m k)
sending_service Sendfile64 abi args m k = taking (served (sending.send_file false abi args) m k)

unfoldable pub listing_service : ListingOperation → AbiRules → Args → Memory → Kernel → Service Kernel
listing_service Getdents abi args m k = taking (listings.getdents false args m k)
listing_service Getdents64 abi args m k = taking (listings.getdents true args m k)

unfoldable pub status_service : StatusOperation → AbiRules → Args → Memory → Kernel → Service Kernel
status_service Fstat abi args m k = spare (served (status.fstat abi args) m k)
status_service Fstat64 abi args m k = spare (served (status.fstat64 abi args) m k)
status_service Fstatat64 abi args m k = spare (served (status.fstatat64 abi args) m k)
status_service Stat abi args m k = spare (served (status.stat abi args) m k)
status_service Stat64 abi args m k = spare (served (status.stat64 abi args) m k)

unfoldable pub retiming_service : RetimingOperation → AbiRules → Args → Memory → Kernel → Service Kernel
retiming_service Utimensat abi args m k = spare (served (retiming.utimensat abi args) m k)

unfoldable pub length_service : LengthOperation → AbiRules → Args → Memory → Kernel → Service Kernel
length_service Fallocate abi args m k = spare (served (lengths.fallocate abi args) m k)
length_service Ftruncate abi args m k = spare (served (lengths.ftruncate abi args) m k)
length_service Ftruncate64 abi args m k = spare (served (lengths.ftruncate abi args) m k)
length_service Truncate abi args m k = spare (served (lengths.truncate abi args) m k)
length_service Truncate64 abi args m k = spare (served (lengths.truncate abi args) m k)

unfoldable pub file_service : FileOperation → AbiRules → Args → Memory → Kernel → Service Kernel
file_service (Paths call) abi args m k = path_service call abi args m k
file_service (Names call) abi args m k = name_service call abi args m k
file_service (Descriptors call) abi args m k = descriptor_service call abi args m k
file_service (Pipes call) abi args m k = pipe_service call abi args m k
file_service (Transfers call) abi args m k = transfer_service call abi args m k
file_service (Vectors call) abi args m k = vector_service call abi args m k
file_service (Sending call) abi args m k = sending_service call abi args m k
file_service (Listings call) abi args m k = listing_service call abi args m k
file_service (Status call) abi args m k = status_service call abi args m k
file_service (Retiming call) abi args m k = retiming_service call abi args m k
file_service (Lengths call) abi args m k = length_service call abi args m k

-- how many bytes of the region for translation a call on vectors takes
abbrev pub vector_call_need : VectorOperation → Args → Kernel → ℕ
vector_call_need Preadv args k = vector_need true args k
vector_call_need Pwritev args k = vector_need false args k
vector_call_need Readv args k = vector_need true args k
vector_call_need Writev args k = vector_need false args k

-- how many bytes of the region for translation the call takes
unfoldable pub file_need : FileOperation → Args → Kernel → ℕ
file_need (Paths call) args k = 0
file_need (Names call) args k = 0
file_need (Descriptors call) args k = 0
file_need (Pipes call) args k = 0
file_need (Transfers call) args k = 0
file_need (Vectors call) args k = vector_call_need call args k
file_need (Sending call) args k = 0
file_need (Listings call) args k = 0
file_need (Status call) args k = 0
file_need (Retiming call) args k = 0
file_need (Lengths call) args k = 0
