use mathlib.Core.Path.{◌≡◌}
use mathlib.Core.List.{◌++◌, append_assoc}
use native.Mathlib.Omega.{arith}
use Rattle.model.specs.Reads.{pairs_bytes}
use Rattle.model.specs.Image.{data_of, kept_bytes}
use Rattle.buffers.proofs.Laws.Paste.{pasted-on, pasted-as}
use Rattle.image.specs.Lengths.{place_of}
use Rattle.image.proofs.encode.put_data.Goals as goal

pub returns : goal.returns
unfolding kept_bytes
returns c =
    let buf = c.args.image.now in
    let d = c.args.d in
    let a = c.bytes_of-a in
    let b = c.bytes_of-b in
    let ab = a.result ++ b.result in
    let one = pairs_bytes d.table1.pairs in
    let two = pairs_bytes d.table2.pairs in
    let first = c.put_pairs in
    let front = pasted-on buf (place_of 2) ab one c.put_two.ensures first.ensures (omega arith) in
    let all = pasted-on buf (place_of 2) (ab ++ one) two front c.put_pairs-2.ensures (omega arith) in
    let whole : (ab ++ one) ++ two ≡ kept_bytes (data_of d) = rw (a.ensures, b.ensures) (simp append_assoc) in
    pasted-as buf (place_of 2) whole all
