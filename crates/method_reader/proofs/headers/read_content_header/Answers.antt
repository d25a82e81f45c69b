-- `method_reader::headers::read_content_header` meets its contract. Assumes nothing.
use Rattle.tables.specs.Letters.{errata}
use Rattle.method_reader.proofs.KeptLaws.{header_made}
use Rattle.method_reader.proofs.headers.read_content_header.Goals as goal

pub returns : goal.returns
returns c =
    let a = c.args in header_made errata a.s.now a.at.at a.used a.tape.now (λ i. (c.type_inv.s i).fits) _ _ _ _ _ _ c.in_ok-header.ensures c.header_of-value.ensures
