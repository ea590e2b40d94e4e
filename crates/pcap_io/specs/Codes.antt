-- The codes of a capture's faults, as printed (own).
use Rattle.std.specs.Prelude.{ℕ, List, codes}
use Rattle.pcap_io.specs.declared.fault.CaptureFault.{CaptureFault}
use Rattle.pcap_io.specs.declared.fault.CaptureFault.TheVariants.{Magic, Version, LinkType, Malformed, TornEnd}
use Rattle.pcap_io.specs.declared.fault.CaptureFault.TheVariants.{TooMany}
use Rattle.pcap_io.specs.declared.fault.CaptureError.{CaptureError}
use Rattle.pcap_io.specs.declared.fault.CaptureError.TheVariants.{Refused, Device, Memory}

abbrev pub code_of : CaptureFault → List ℕ
code_of Magic = codes "P1"
code_of Version = codes "P2"
code_of LinkType = codes "P3"
code_of Malformed = codes "P4"
code_of TornEnd = codes "P5"
code_of TooMany = codes "P7"

-- of an error: its fault's code, P6 for a failed read, or that memory was refused
abbrev pub word_of : CaptureError → List ℕ
word_of (Refused fault) = code_of fault
word_of Device = codes "P6"
word_of Memory = codes "memory"
