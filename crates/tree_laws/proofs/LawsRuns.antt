-- Every tree that the image and the operations make is sound.
use Rattle.std.proofs.Common.{ℕ}
use Rattle.file_tree.specs.declared.state.FileTree.{FileTree}
use Rattle.tree_laws.specs.Runs.{Made, MadeTreesAreSound, First, ImageDirectory, ImageFile, ImageBytes, ImageLock, Number, File, Directory, Written, Emptied, Length, End, Times, Locked, Unlocked, Working, Unnamed, LetGo, Removed, Renamed}
use Rattle.tree_laws.specs.Sound.{IsSound}
use Rattle.tree_laws.proofs.LawsMaking.{fresh_tree_is_sound, given_number_keeps_sound, image_bytes_keep_sound, image_directory_keeps_sound, image_file_keeps_sound, image_lock_keeps_sound, made_directory_keeps_sound, made_file_keeps_sound}
use Rattle.tree_laws.proofs.LawsRemoving.{letting_go_keeps_sound, lock_keeps_sound, removed_directory_keeps_sound, renamed_tree_stays_sound, unnamed_file_keeps_sound}
use Rattle.tree_laws.proofs.TreesChanged.{emptied_file_keeps_sound, end_keeps_sound, length_keeps_sound, times_keep_sound, unlocking_keeps_sound, working_keeps_sound, written_bytes_keep_sound}

sound : (n : ℕ) (s : FileTree) → Made n s → IsSound n s
sound n s First = fresh_tree_is_sound
sound n s (ImageDirectory k t path inode before start free) = image_directory_keeps_sound k t path inode (sound k t before) start free
sound n s (ImageFile k t path inode size before start free) = image_file_keeps_sound k t path inode size (sound k t before) start free
sound n s (ImageBytes k t path offset bytes before) = image_bytes_keep_sound k t path offset bytes (sound k t before)
sound n s (ImageLock k t path write start count pid before) = image_lock_keeps_sound k t path write start count pid (sound k t before)
sound n s (Number k t before few) = given_number_keeps_sound k t (sound k t before) few
sound n s (File k t m l mode before few missing) = made_file_keeps_sound k t m l mode (sound k t before) few missing
sound n s (Directory k t m l mode before few missing) = made_directory_keeps_sound k t m l mode (sound k t before) few missing
sound n s (Written k t now inode start bytes before fits) = written_bytes_keep_sound k t now inode start bytes (sound k t before) fits
sound n s (Emptied k t inode before there file) = emptied_file_keeps_sound k t inode (sound k t before) there file
sound n s (Length k t now inode size before fits) = length_keeps_sound k t now inode size (sound k t before) fits
sound n s (End k t raises inode end before fits) = end_keeps_sound k t raises inode end (sound k t before) fits
sound n s (Times k t inode now times before) = times_keep_sound k t inode now times (sound k t before)
sound n s (Locked k t after inode position flags l before set) = lock_keeps_sound k t after inode position flags l (sound k t before) set
sound n s (Unlocked k t inode before) = unlocking_keeps_sound k t inode (sound k t before)
sound n s (Working k t inode before directory) = working_keeps_sound k t inode (sound k t before) directory
sound n s (Unnamed k t now l i held before plain entry file) = unnamed_file_keeps_sound k t now l i held (sound k t before) plain entry file
sound n s (LetGo k t i held before) = letting_go_keeps_sound k t i held (sound k t before)
sound n s (Removed k t now l i held before plain entry spare) = removed_directory_keeps_sound k t now l i held (sound k t before) plain entry spare
sound n s (Renamed k t now l m path i e held before old new meant replaced other may) = renamed_tree_stays_sound k t now l m path i e held (sound k t before) old new meant replaced other may

pub made_trees_are_sound : MadeTreesAreSound
made_trees_are_sound n s made = sound n s made
