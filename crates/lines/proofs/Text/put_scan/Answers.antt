-- `lines::Text::put_scan` writes its three parts side by side; they fit since no bucket number has more than five
-- digits.
use Rattle.std.proofs.Common.{rules}
use Rattle.lines.specs.Lines.Written.{scan_heading_room, scanned_room, scan_end_room, scan_wrote}
use Rattle.lines.proofs.Text.put_scan.Goals as goal

pub put_heading-requires : goal.put_heading-requires
put_heading-requires c = search scan_heading_room

pub put_scanned-requires : goal.put_scanned-requires
put_scanned-requires c = search scanned_room

pub put_byte-requires : goal.put_byte-requires
put_byte-requires c = search scan_end_room

pub returns : goal.returns
returns c = search (rules, scan_wrote)
