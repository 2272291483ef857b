use mathlib.Core.Path.{◌≡◌, ap}
use mathlib.Core.List.{map}
use Rattle.integers.specs.Bytes.{bytes_of}
use Rattle.model.specs.Errors.{word_of, has_his, has_act, com_bytes, common_error_bytes}
use Rattle.errors.specs.declared.words.Words.{Words}
use Rattle.errors.proofs.common_error.Goals as goal

pub returns : goal.returns
unfolding common_error_bytes com_bytes bytes_of
returns c m v n e =
    let cs = m.channels in
    let w = c.args.w in
    let his : w.his ≡ word_of (map has_his cs) = ap (λ (x : Words). x.his) e in
    let act : w.act ≡ word_of (map has_act cs) = ap (λ (x : Words). x.act) e in
    simp (
      v,
      c.com_bytes-a.ensures has_act cs n act,
      c.com_bytes-h.ensures has_his cs n his,
      c.service_byte-act.ensures has_act cs n act,
      c.service_byte-his.ensures has_his cs n his,
    )
