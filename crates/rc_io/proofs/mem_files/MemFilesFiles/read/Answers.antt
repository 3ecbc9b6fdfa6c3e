use Rattle.std.proofs.Common.{◌≡◌, ◌∙◌, ap, sym, refl, drop, take}
use Rattle.std.proofs.lemmas.List.{take_rest}
use Rattle.rc_io.specs.Memory.{rest_of, content_at}
use Rattle.rc_io.proofs.Remains.{left-read}
use Rattle.rc_io.proofs.mem_files.MemFilesFiles.read.Goals as goal

pub returns-clause-bytes : goal.returns-clause-bytes
returns-clause-bytes c =
    let held = c.self.inside in
    let content = content_at held.files c.in-Some.place in
    let copy = c.copy_front-count in
    let given = take copy.result copy.new.buffer in
    -- counting the call has left what is to be read
    let before : rest_of c.args.self.now ≡ drop held.done content =
    sym (ap rest_of (c.self.view_is ∙ c.fails_now-fails.ensures.counted)) ∙ rw c.in-Some.is refl in
    -- the slice of the code is what is left of the content
    let copied : given ≡ take copy.result (drop held.done content) =
    copy.ensures.bytes
    ∙ ap (take copy.result) (take_rest c.content.result.now held.done)
    ∙ ap (λ bytes. take copy.result (drop held.done bytes)) (c.content.ensures ∙ ap (λ files. content_at files c.in-Some.place) c.items.ensures) in
    before ∙ rw c.in-Some.is (left-read content given held.done copy.result copied)
