use Rattle.model.specs.State.{data_channel_of}
use Rattle.model.specs.Image.{entry_of, setup_of, entries_bytes, data_of, kept_bytes, sections, contents_of, framed}
use mathlib.Core.Path.{◌≡◌}
use mathlib.Core.List.{List, [], ◌∷◌, ◌++◌, map, append_assoc}
use Prim.Native.Nat.{ℕ}
use native.Mathlib.Omega.{arith}
use Rattle.model.specs.declared.Module.{Module}
use Rattle.buffers.proofs.Laws.Paste.{pasted-on, pasted-as}
use Rattle.image.specs.Parts.{module_front}
use Rattle.image.proofs.encode.put_body.Goals as goal

-- sections and counts one after another
sections-joined : (m : Module) →
    (((module_front m.shared ++ entries_bytes (map entry_of m.channels)) ++ (1 ∷ [])) ++ kept_bytes (data_of (data_channel_of m))) ++ (1 ∷ [])
    ≡ framed sections (contents_of (setup_of m))
unfolding module_front framed
sections-joined m = simp append_assoc

pub returns : goal.returns
returns c =
    let buf = c.args.image.now in
    let m = c.args.m in
    let a = module_front m.shared in
    let es = entries_bytes (map entry_of m.channels) in
    let ds = kept_bytes (data_of (data_channel_of m)) in
    let one : List ℕ = 1 ∷ [] in
    let p₁ = pasted-on buf 0 a es c.put_module.ensures c.put_entries.ensures (omega arith) in
    let p₂ = pasted-on buf 0 (a ++ es) one p₁ c.put_array.ensures (omega arith) in
    let p₃ = pasted-on buf 0 ((a ++ es) ++ one) ds p₂ c.put_data.ensures (omega arith) in
    let p₄ = pasted-on buf 0 (((a ++ es) ++ one) ++ ds) one p₃ c.put_array-2.ensures (omega arith) in
    pasted-as buf 0 (sections-joined m) p₄
