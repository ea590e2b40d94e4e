-- The faults of a run, by the errors of its parts.
use Rattle.box_file.specs.declared.fault.BoxError.{BoxError}
use Rattle.box_file.specs.declared.fault.BoxError.TheVariants as boxes
use Rattle.nft_parser.specs.declared.fault.ParseError.{ParseError}
use Rattle.nft_parser.specs.declared.fault.ParseError.TheVariants as texts
use Rattle.pcap_io.specs.declared.fault.CaptureError.{CaptureError}
use Rattle.pcap_io.specs.declared.fault.CaptureError.TheVariants as captures
use Rattle.pcap_io.specs.declared.sink.SinkError.{SinkError}
use Rattle.pcap_io.specs.declared.sink.SinkError.TheVariants as sinks
use Rattle.rule_check.specs.declared.fault.CheckError.{CheckError}
use Rattle.rule_check.specs.declared.fault.CheckError.TheVariants as checks
use Rattle.engine.specs.declared.fault.RulesFault.TheVariants.{Text, Check}
use Rattle.engine.specs.declared.fault.RunFault.{RunFault}
use Rattle.engine.specs.declared.fault.RunFault.TheVariants.{Rules, Box, Capture, Device, Memory}

-- the rules' text doesn't parse
abbrev pub of_parser : ParseError → RunFault
of_parser (texts.Refused fault) = Rules (Text fault)
of_parser texts.Memory = Memory

-- the box file is refused
abbrev pub of_box : BoxError → RunFault
of_box (boxes.Refused fault) = Box fault
of_box boxes.Memory = Memory

-- the ruleset is refused on the box
abbrev pub of_check : CheckError → RunFault
of_check (checks.Refused fault) = Rules (Check fault)
of_check checks.Memory = Memory

-- the capture can't be read
abbrev pub of_capture : CaptureError → RunFault
of_capture (captures.Refused fault) = Capture fault
of_capture captures.Device = Device
of_capture captures.Memory = Memory

-- the output capture can't be opened
abbrev pub of_sink : SinkError → RunFault
of_sink sinks.Device = Device
of_sink sinks.Memory = Memory
