-- `Writer::put_bytes` meets its contract: the bytes are copied over as many. Assumes nothing.
use Rattle.std.proofs.Common.{refl}
use Rattle.printing.proofs.Laws.{copied}
use Rattle.printing.proofs.Writer.put_bytes.Goals as goal

pub returns : goal.returns
returns c = copied _ c.args.bytes.now refl c.requires c.copy_from_slice.ensures.after
