-- The identity of files.
use Rattle.std.specs.Prelude.{◌==◌, ◌&&◌, Bool}
use Rattle.program.specs.declared.identity.FileIdentity.{FileIdentity}

-- both are the same regular file (POSIX.1, <sys/stat.h>: st_ino and st_dev together identify a file)
abbrev pub is_same_file : FileIdentity → FileIdentity → Bool
is_same_file a b = a.is_regular && b.is_regular && a.device == b.device && a.inode == b.inode
