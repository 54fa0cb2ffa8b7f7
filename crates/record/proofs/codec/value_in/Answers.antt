use Rattle.std.proofs.Common.{◌≡◌, length, arith, rules}
use Rattle.record.proofs.Decoding.{value-is}
use Rattle.record.proofs.codec.value_in.Goals as goal

pub returns : goal.returns
returns c =
    let e : length c.args.bytes.now ≡ 12 = search rules in
    record { value = value-is c.args.bytes.now c.from_be_bytes-root.result c.from_be_bytes-setup.result e (omega arith) (omega arith); bound = search rules }
