-- Each number's bytes, the highest first.
use Rattle.writer.proofs.Writes.{highest, third, lowest}
use Rattle.writer.proofs.header_of.Goals as goal

pub returns : goal.returns
returns c =
    let t = c.args.r.timestamp in
    let s = c.args.r.ssrc in
    rw (
      c.to_be_bytes.ensures,
      c.to_be_bytes-2.ensures,
      c.to_be_bytes-3.ensures,
      c.flagged-flagged_type.ensures,
      highest t,
      third t,
      lowest t,
      highest s,
      third s,
      lowest s,
    )
