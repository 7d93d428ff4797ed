-- So the netlist that is written for a netlist of one domain implements its project and shows what it shows.
use Rattle.lp_spec_together.specs.Laws.{SharedImplements}
use Rattle.lp_spec_one_domain.specs.Laws.{ReadSources, OneDomainIsRead, OneDomainIsInsertable, OneDomainIsWithinLimits, OneDomainImplements}
use Rattle.lp_spec_one_domain.specs.OneDomain.{project_of}

pub implements : ReadSources → OneDomainIsRead → OneDomainIsInsertable → OneDomainIsWithinLimits → SharedImplements → OneDomainImplements
implements sources is-read insertable within implemented text files d l reads library taken =
    let source = sources text files d.structure reads library in
    implemented (project_of d) l (λ o. 0) (is-read d source taken) (insertable d l (λ o. 0) taken) (within d l source taken)
