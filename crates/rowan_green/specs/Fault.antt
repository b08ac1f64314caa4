-- The numbers of the refusals.
use Rattle.std.specs.Prelude.{ℕ}
use Rattle.rowan_green.specs.declared.fault.Fault.{Fault}
use Rattle.rowan_green.specs.declared.fault.Fault.TheVariants.{TextTooLong, TooManyChildren}
use Rattle.rowan_green.specs.declared.fault.Fault.TheVariants.{CheckpointPast, CheckpointBefore}
use Rattle.rowan_green.specs.declared.fault.Fault.TheVariants.{NothingOpen, NotOneElement, NotANode}
use Rattle.rowan_green.specs.declared.fault.Fault.TheVariants.{OtherKind, NotFound, Memory}
use Rattle.rowan_green.specs.declared.fault.Fault.TheVariants.{UnknownMark, NotOneList}

abbrev pub fault_number : Fault → ℕ
fault_number TextTooLong = 1
fault_number TooManyChildren = 2
fault_number CheckpointPast = 3
fault_number CheckpointBefore = 4
fault_number NothingOpen = 5
fault_number NotOneElement = 6
fault_number NotANode = 7
fault_number OtherKind = 8
fault_number NotFound = 9
fault_number Memory = 10
fault_number UnknownMark = 11
fault_number NotOneList = 12
