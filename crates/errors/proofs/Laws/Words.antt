-- For callers: a word of the channels' errors is not 0 exactly where a channel has some. Assumes nothing.
use mathlib.Core.Path.{◌≡◌, ap, sym, ◌∙◌}
use mathlib.Core.Bool.{not}
use mathlib.Core.List.{List}
use lib.Dec.{eqb}
use Rattle.model.specs.declared.Channel.{Channel}
use Rattle.model.specs.Errors.{any, has_his, has_act}
use Rattle.errors.specs.declared.words.Words.{Words}
use Rattle.errors.specs.Words.{words_of}
use Rattle.errors.proofs.Laws.Bits.{any_word}

pub any-his : (w : Words) (cs : List Channel) → w ≡ words_of cs → not (eqb w.his 0) ≡ any has_his cs
any-his w cs e = ap (λ (x : Words). not (eqb x.his 0)) e ∙ sym (any_word has_his cs)

pub any-act : (w : Words) (cs : List Channel) → w ≡ words_of cs → not (eqb w.act 0) ≡ any has_act cs
any-act w cs e = ap (λ (x : Words). not (eqb x.act 0)) e ∙ sym (any_word has_act cs)
