-- What registers show of all channels, as words; whether any channel has errors; and what is made of these. Definitions only.
use Rattle.std.specs.Prelude.{◌≡◌, Bool, List, map, ℕ, length}
use Rattle.model.specs.declared.Channel.{Channel}
use Rattle.model.specs.declared.Service.{Service}
use Rattle.model.specs.declared.Module.{Module}
use Rattle.model.specs.State.{out_flag_of, in_flag_of}
use Rattle.model.specs.Errors.{word_of, any, has_his, has_act}
use Rattle.errors.specs.declared.words.Words.{Words}
use Rattle.errors.specs.declared.words.AnyErrors.{AnyErrors}

-- OutFlags, InFlags and the two words of IOChError as numbers: channel k at bit k-1
abbrev pub words_of : List Channel → Words
words_of cs = record {
  out_flags = word_of (map out_flag_of cs);
  in_flags = word_of (map in_flag_of cs);
  his = word_of (map has_his cs);
  act = word_of (map has_act cs);
}

-- whether His, and whether Act, of any channel is not 0
abbrev pub any_of : List Channel → AnyErrors
any_of cs = record { his = any has_his cs; act = any has_act cs }

-- r, made of the word of a flag, is f of that flag and the channels, whichever they are
abbrev pub OfWord : {A : Type 0} → ((Channel → Bool) → List Channel → A) → ℕ → A → Type 0
OfWord f word r = (p : Channel → Bool) (cs : List Channel) → length cs ≡ 16 → word ≡ word_of (map p cs) → r ≡ f p cs

-- r, made of the words, is f of the channels
abbrev pub OfWords : {A : Type 0} → (List Channel → A) → Words → A → Type 0
OfWords f w r = (cs : List Channel) → length cs ≡ 16 → w ≡ words_of cs → r ≡ f cs

-- r, made of a box's service record and the words of its channels, is f of the box
abbrev pub OfBox : {A : Type 0} → (Module → A) → Service → Words → A → Type 0
OfBox f v w r = (m : Module) → m.service ≡ v → length m.channels ≡ 16 → w ≡ words_of m.channels → r ≡ f m

-- r, made of whether any channel has a flag, is f of that flag and the channels
abbrev pub OfHas : ((Channel → Bool) → List Channel → Bool) → Bool → Bool → Type 0
OfHas f has r = (p : Channel → Bool) (cs : List Channel) → has ≡ any p cs → r ≡ f p cs

-- r, made of a box's service record and of whether any of its channels has the flag p, is f of the box
abbrev pub OfBoxHas : (Channel → Bool) → (Module → Bool) → Service → Bool → Bool → Type 0
OfBoxHas p f v has r = (m : Module) → m.service ≡ v → has ≡ any p m.channels → r ≡ f m
