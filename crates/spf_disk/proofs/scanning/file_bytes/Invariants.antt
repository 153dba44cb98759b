use Rattle.std.proofs.Common.{◌≡◌, ◌≤◌, ◌-◌, length, take}
use Rattle.spf_disk.specs.Crash.{Looks}
use Rattle.spf_disk.specs.Image.{bytes_of}
use Rattle.spf_disk.proofs.scanning.file_bytes.Given as goal

abbrev pub invariant-loop-bytes : goal.invariant-loop-bytes
invariant-loop-bytes g l =
    (l.bytes.items
    ≡ take (length l.bytes.items) (bytes_of (g.D.Disk.seen l.initial.disk) l.file))
    × (length l.bytes.items ≤ length (bytes_of (g.D.Disk.seen l.initial.disk) l.file))
    × Looks g.D.Disk.seen g.D.Disk.may_leave g.D.Disk.moment g.D.Disk.left_since l.initial.disk
    l.disk
    × (g.D.Disk.failures l.initial.disk ≤ g.D.Disk.failures l.disk)

abbrev pub decreases-loop-bytes : goal.decreases-loop-bytes
decreases-loop-bytes g l =
    length (bytes_of (g.D.Disk.seen l.initial.disk) l.file) - length l.bytes.items
