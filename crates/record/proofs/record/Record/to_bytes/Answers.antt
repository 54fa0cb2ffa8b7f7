use Rattle.std.proofs.Common.{ap, ◌∙◌, arith}
use Rattle.record.specs.Entry.{entry_of}
use Rattle.record.specs.Halves.{head_of}
use Rattle.record.specs.Layout.{bytes_of, decoded}
use Rattle.record.proofs.Digits.{be4, be8}
use Rattle.record.proofs.Packing.{bytes-are, packed-is}
use Rattle.record.proofs.Trips.{decoded-encoded}
use Rattle.record.proofs.record.Record.to_bytes.Goals as goal

pub returns : goal.returns
returns c =
    let r = c.args.self.now in
    let e =
    bytes-are (head_of (entry_of r)) r.value.root r.value.setup c.to_be_bytes.result c.to_be_bytes-2.result c.to_be_bytes-3.result (omega arith) (omega arith)
    (c.to_be_bytes.ensures ∙ be4 c.head.result ∙ ap (bytes_of 4) c.head.ensures)
    (c.to_be_bytes-2.ensures ∙ be8 r.value.root)
    (c.to_be_bytes-3.ensures ∙ be4 r.value.setup)
    ∙ ap (bytes_of 16) (packed-is (entry_of r)) in
    record { value = e; back = ap decoded e ∙ decoded-encoded r }
